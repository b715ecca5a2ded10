-- The first of the words of a line that is not of its form, or is out of its range.
use Rattle.std.specs.Prelude.{◌≡◌, ◌⊎◌, ℕ, ◌+◌, List, [], ◌∷◌, Option, None, Some, if◌then◌else◌}
use Rattle.script_grammar.specs.Fields.{IsInRange, has_form}
use Rattle.script_grammar.specs.Kinds.{field_at}
use Rattle.script_grammar.specs.declared.kind.Kind.{Kind}

-- the place of the first of these words that has not the form of its field, where the first one is at this place
abbrev pub unformed_from : Kind → ℕ → List (List ℕ) → Option ℕ
unformed_from kind place [] = None
unformed_from kind place (word ∷ words) = if has_form (field_at kind place) word then unformed_from kind (place + 1) words else Some place

-- the place of the first of these words that is out of the range of its field, if one is, where the first one is at this place
abbrev pub IsOutFrom : ℕ → Kind → ℕ → List (List ℕ) → Option ℕ → Type 0
IsOutFrom period kind place [] found = found ≡ None
IsOutFrom period kind place (word ∷ words) found =
    (IsInRange period (field_at kind place) word × IsOutFrom period kind (place + 1) words found) ⊎ ((IsInRange period (field_at kind place) word → ⊥) × (found ≡ Some place))

abbrev pub IsFirstOut : ℕ → Kind → List (List ℕ) → Option ℕ → Type 0
IsFirstOut period kind behind found = IsOutFrom period kind 0 behind found
