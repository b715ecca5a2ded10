-- The text that waits to be written.
use Rattle.std.specs.Prelude.{◌≡◌, ◌⊎◌, ℕ, List, [], ◌++◌, take, Option}
use Rattle.std.specs.Io.KnownBytes.{Appends}
use Rattle.load_policer.specs.declared.ending.Ending.{Ending}
use Rattle.load_policer.specs.declared.ending.Ending.TheVariants.{BadLine, WriteFault}

-- some front of what waited was written, and the rest waits
pub record IsFlushed (before after : Option (List ℕ)) (old new : List ℕ) : Type 0 where
  pub bytes : List ℕ
  pub wrote : Appends before after bytes
  pub split : old ≡ bytes ++ new

-- all of it was written, and it ended so; or a front of it was, and the sink failed
abbrev pub Finishes : Ending → Ending → Option (List ℕ) → Option (List ℕ) → List ℕ → Type 0
Finishes wanted got before after text =
    ((got ≡ wanted) × Appends before after text) ⊎ ((got ≡ WriteFault) × (n : ℕ) × Appends before after (take n text))

-- it did not end at a bad line
abbrev pub IsNoLine : Ending → Type 0
IsNoLine (BadLine number why) = ⊥
IsNoLine _ = Unit {0}

-- where it ended at a bad line, the text advises on it; else there is none
abbrev pub IsAdvisedAt : (List ℕ → Type 0) → Ending → List ℕ → Type 0
IsAdvisedAt Advises (BadLine number why) text = Advises text
IsAdvisedAt Advises _ text = text ≡ []
