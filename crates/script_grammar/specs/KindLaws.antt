-- Laws of the kinds of lines.
use Rattle.std.specs.Prelude.{◌≡◌, ℕ, List, ◌∷◌, Bool, false, ◌&&◌, Option, None, Some, is_none, is_some, length}
use Rattle.script_grammar.specs.LineKinds.{said_by}
use Rattle.script_grammar.specs.FirstWords.{unformed_from}
use Rattle.script_grammar.specs.Kinds.{has_count, kind_of}
use Rattle.script_grammar.specs.declared.kind.Kind.{Kind}

-- these words behind the first one are as many as a line of the kind may have, and each has the form of its field
abbrev pub are_formed : Option Kind → List (List ℕ) → Bool
are_formed None behind = false
are_formed (Some kind) behind = has_count kind (length behind) && is_none (unformed_from kind 0 behind)

-- words say a line exactly where they are of a kind of line, as many as it may have, and each has the form of its field
abbrev pub FormedWordsSayALine : Type 0
FormedWordsSayALine = (first : List ℕ) (behind : List (List ℕ)) → is_some (said_by (first ∷ behind)) ≡ are_formed (kind_of (first ∷ behind)) behind
