-- How the run of a seed's network ended, and what was written.
use Rattle.std.specs.Prelude.{◌≡◌, ℕ, true, false, List, [], take, Option}
use Rattle.std.specs.Io.KnownBytes.{Appends}
use Rattle.network_model.specs.Runs.{Plan, is_crowded_run}
use Rattle.script_run.specs.declared.ending.Ending.{Ending}
use Rattle.script_run.specs.declared.ending.Ending.TheVariants.{Done, WriteFault, NoMemory, Crowded}
use Rattle.grown_network.specs.Grown.{grown_plan}
use Rattle.grown_network.specs.Summaries.{summary}

-- a front of the summary
abbrev pub IsFront : ℕ → List ℕ → Type 0
IsFront seed text = (count : ℕ) × (text ≡ take count (summary seed))

-- the network of a seed was run, this text was written, and so it ended: nothing is written before the run has ended, and nothing
-- at all where it is crowded
abbrev pub GrownSo : (Plan → Type 0) → Ending → ℕ → List ℕ → Type 0
GrownSo stands Done seed text = (is_crowded_run (grown_plan seed) ≡ false) × (text ≡ summary seed) × stands (grown_plan seed)
GrownSo stands WriteFault seed text = (is_crowded_run (grown_plan seed) ≡ false) × IsFront seed text
GrownSo stands NoMemory seed text = text ≡ []
GrownSo stands Crowded seed text = (is_crowded_run (grown_plan seed) ≡ true) × (text ≡ [])
GrownSo stands _ seed text = ⊥

-- and the text was written to a sink
pub record IsGrownRun (stands : Plan → Type 0) (ending : Ending) (seed : ℕ) (before after : Option (List ℕ)) : Type 0 where
  pub text : List ℕ
  pub wrote : Appends before after text
  pub ended : GrownSo stands ending seed text

-- what it comes to, unless a fault of the sink or want of memory ends it
abbrev pub GrowsTo : Ending → ℕ → Type 0
GrowsTo Done seed = is_crowded_run (grown_plan seed) ≡ false
GrowsTo Crowded seed = is_crowded_run (grown_plan seed) ≡ true
GrowsTo _ seed = ⊥
