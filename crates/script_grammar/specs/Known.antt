-- The names that a line must have from an earlier one.
use Rattle.std.specs.Prelude.{ℕ, ◌+◌, List, [], ◌∷◌, Bool, true, Option, None, Some, is_some, codes, if◌then◌else◌}
use Rattle.script_grammar.specs.Draft.{Draft, end_named, node_named}
use Rattle.script_grammar.specs.Names.{named_at}
use Rattle.script_grammar.specs.declared.kind.Kind.{Kind}
use Rattle.script_grammar.specs.declared.named.Named.{Named}
use Rattle.script_grammar.specs.declared.named.Named.TheVariants as named

-- the lines so far declare what has this name
abbrev pub is_declared : Draft → Named → List ℕ → Bool
is_declared d named.Node name = is_some (node_named d name)
is_declared d named.End name = is_some (end_named d name)

abbrev pub is_known : Draft → Option Named → List ℕ → Bool
is_known d None word = true
is_known d (Some what) word = is_declared d what word

-- the place of the first of these words that is a name of what no line so far declares, where the first one is at this place
abbrev pub unknown_from : Draft → Kind → ℕ → List (List ℕ) → Option ℕ
unknown_from d kind place [] = None
unknown_from d kind place (word ∷ words) = if is_known d (named_at kind place) word then unknown_from d kind (place + 1) words else Some place

-- what is said of such a word
abbrev pub named_text : Named → List ℕ
named_text named.Node = codes "no earlier line declares a node of this name"
named_text named.End = codes "no earlier line declares an end of this name"
