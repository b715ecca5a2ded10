-- Parts of a text round a separator.
use Rattle.std.specs.Prelude.{ℕ, List, [], ◌∷◌, Option, None, Some, ◌==◌}
use Rattle.std.specs.List.{slice_split}

-- the parts of a text between separators, which may be empty
abbrev pub parts_of : ℕ → List ℕ → List (List ℕ)
parts_of separator text = slice_split (λ c. c == separator) text

-- the members of a list of two, three, four, five
abbrev pub two : {X : Type 0} → List X → Option (X × X)
two (a ∷ b ∷ []) = Some (a, b)
two _ = None

abbrev pub three : {X : Type 0} → List X → Option (X × X × X)
three (a ∷ b ∷ c ∷ []) = Some (a, b, c)
three _ = None

abbrev pub four : {X : Type 0} → List X → Option (X × X × X × X)
four (a ∷ b ∷ c ∷ d ∷ []) = Some (a, b, c, d)
four _ = None

abbrev pub five : {X : Type 0} → List X → Option (X × X × X × X × X)
five (a ∷ b ∷ c ∷ d ∷ e ∷ []) = Some (a, b, c, d, e)
five _ = None
