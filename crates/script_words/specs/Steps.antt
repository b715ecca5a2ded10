-- Reading one thing after another, where each may fail.
use Rattle.std.specs.Prelude.{List, [], ◌∷◌, Option, Some, option_and_then}

-- what the next step makes of a value, where there is one
infixl 10 ◌>>=◌
abbrev pub ◌>>=◌ : {A B : Type 0} → Option A → (A → Option B) → Option B
found >>= next = option_and_then next found

-- what each word reads as, where every word does
abbrev pub each_of : {W X : Type 0} → (W → Option X) → List W → Option (List X)
each_of read [] = Some []
each_of read (word ∷ words) = do
  x ← read word
  xs ← each_of read words
  Some (x ∷ xs)
