-- The text that waits to be written.
use Rattle.std.proofs.Common.{◌≡◌, ◌≢◌, ◌⊎◌, ◌==◌, ℕ, List, [], Bool, true, false, Option, is_some, refl, sym, inl, inr}
use Rattle.std.specs.List.{position}
use Rattle.std.proofs.KnownBytes.{Appends-nil}
use Rattle.byte_streams.specs.Streams.{HasFeed}
use Rattle.byte_streams.specs.declared.answer.NextLine.{NextLine}
use Rattle.byte_streams.specs.declared.answer.NextLine.TheVariants.{Line, Long}
use Rattle.load_policer.specs.Advice.{IsAdvised}
use Rattle.load_policer.specs.Finishing.{IsFlushed, IsNoLine}
use Rattle.load_policer.specs.declared.ending.Ending.{Ending}
use Rattle.load_policer.specs.declared.ending.Ending.TheVariants.{Done, BadLine, ReadFault, WriteFault, NoMemory, TooLong}

-- none of it was written
pub nothing_flushed : (holds : Option (List ℕ)) (waits : List ℕ) → IsFlushed holds holds waits waits
nothing_flushed holds waits = record { bytes = []; wrote = Appends-nil holds; split = refl }

-- where no line is bad, there is no advice
pub quiet_so : (e : Ending) (bytes advice : List ℕ) → IsNoLine e → advice ≡ [] → IsAdvised e bytes advice
quiet_so Done bytes advice calm none = none
quiet_so (BadLine number why) bytes advice calm none = absurd calm
quiet_so ReadFault bytes advice calm none = none
quiet_so WriteFault bytes advice calm none = none
quiet_so NoMemory bytes advice calm none = none
quiet_so TooLong bytes advice calm none = none

-- where another answer came than a line, nothing waited
pub none_waits : (at_hand : Bool) (bytes waits : List ℕ) (answer : NextLine) → at_hand ≡ is_some (position (λ c. c == 10) bytes) → (at_hand ≡ false → waits ≡ [])
    → (HasFeed bytes → (answer ≡ Line) ⊎ (answer ≡ Long)) → answer ≢ Line → answer ≢ Long → waits ≡ []
none_waits true bytes waits answer same empty came no_line not_long = elim (came (sym same)) [
  | inl e ↦ absurd (no_line e)
  | inr e ↦ absurd (not_long e)
]
none_waits false bytes waits answer same empty came no_line not_long = empty refl
