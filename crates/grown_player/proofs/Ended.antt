-- How the run of a seed's network ends.
use Rattle.std.proofs.Common.{◌≡◌, ℕ, List, [], Option, true, false, take, refl, sym, ap, subst, ◌∙◌, inl, inr}
use Rattle.std.specs.Prelude.{Bool}
use Rattle.std.specs.Io.KnownBytes.{Appends}
use Rattle.std.proofs.KnownBytes.{Appends-nil}
use Rattle.network_model.specs.Runs.{Plan, is_crowded_run}
use Rattle.script_run.specs.Endings.{IsOrNoMemory}
use Rattle.script_run.specs.declared.ending.Ending.{Ending}
use Rattle.script_run.specs.declared.ending.Ending.TheVariants.{Done, BadLine, ReadFault, WriteFault, NoMemory, Crowded, TooLong}
use Rattle.grown_network.specs.Grown.{grown_plan}
use Rattle.grown_network.specs.Summaries.{summary}
use Rattle.grown_player.specs.Endings.{GrowsTo, IsGrownRun}

module _ (stands : Plan → Type 0) (seed : ℕ) (before after : Option (List ℕ)) where
  pub done : (text : List ℕ) → is_crowded_run (grown_plan seed) ≡ false → text ≡ summary seed → stands (grown_plan seed) → Appends before after text → IsGrownRun stands Done seed before after
  done text roomy is there wrote = record { text = text; wrote = wrote; ended = (roomy, is, there) }

  pub unwritten : (text : List ℕ) (n : ℕ) → is_crowded_run (grown_plan seed) ≡ false → text ≡ summary seed → Appends before after (take n text) → IsGrownRun stands WriteFault seed before after
  unwritten text n roomy is wrote = record { text = take n text; wrote = wrote; ended = (roomy, (n, ap (take n) is)) }

module _ (stands : Plan → Type 0) (seed : ℕ) (holds : Option (List ℕ)) where
  pub crowded : is_crowded_run (grown_plan seed) ≡ true → IsGrownRun stands Crowded seed holds holds
  crowded full = record { text = []; wrote = Appends-nil holds; ended = (full, refl) }

  pub out_of_memory : IsGrownRun stands NoMemory seed holds holds
  out_of_memory = record { text = []; wrote = Appends-nil holds; ended = refl }

-- ---- what it comes to
contrary : (seed : ℕ) → is_crowded_run (grown_plan seed) ≡ true → is_crowded_run (grown_plan seed) ≡ false → ⊥
contrary seed full roomy = let z : true ≡ false = sym full ∙ roomy in cc

pub comes_roomy : (seed : ℕ) (wanted : Ending) → is_crowded_run (grown_plan seed) ≡ false → GrowsTo wanted seed → wanted ≡ Done
comes_roomy seed Done roomy to = refl
comes_roomy seed (BadLine number why) roomy to = absurd to
comes_roomy seed ReadFault roomy to = absurd to
comes_roomy seed WriteFault roomy to = absurd to
comes_roomy seed NoMemory roomy to = absurd to
comes_roomy seed Crowded roomy to = absurd (contrary seed to roomy)
comes_roomy seed TooLong roomy to = absurd to

pub comes_crowded : (seed : ℕ) (wanted : Ending) → is_crowded_run (grown_plan seed) ≡ true → GrowsTo wanted seed → wanted ≡ Crowded
comes_crowded seed Done full to = absurd (contrary seed full to)
comes_crowded seed (BadLine number why) full to = absurd to
comes_crowded seed ReadFault full to = absurd to
comes_crowded seed WriteFault full to = absurd to
comes_crowded seed NoMemory full to = absurd to
comes_crowded seed Crowded full to = refl
comes_crowded seed TooLong full to = absurd to

-- where the sink does not fail
pub ends_done : (seed : ℕ) (wanted : Ending) → is_crowded_run (grown_plan seed) ≡ false → GrowsTo wanted seed → IsOrNoMemory wanted Done
ends_done seed wanted roomy to = inl (sym (comes_roomy seed wanted roomy to))

pub ends_crowded : (seed : ℕ) (wanted : Ending) → is_crowded_run (grown_plan seed) ≡ true → GrowsTo wanted seed → IsOrNoMemory wanted Crowded
ends_crowded seed wanted full to = inl (sym (comes_crowded seed wanted full to))

pub ends_unwritten : (seed : ℕ) (wanted : Ending) (F : Type 0) → is_crowded_run (grown_plan seed) ≡ false → GrowsTo wanted seed → (wanted ≡ Done → F → ⊥) → F → IsOrNoMemory wanted WriteFault
ends_unwritten seed wanted F roomy to quiet fault = absurd (quiet (comes_roomy seed wanted roomy to) fault)
