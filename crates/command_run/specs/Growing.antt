-- The run of a grown network, by its status.
use Rattle.std.specs.Prelude.{◌≡◌, ◌⊎◌, ℕ, ◌++◌, List, Option, codes}
use Rattle.std.specs.Io.KnownBytes.{Appends}
use Rattle.network_model.specs.Runs.{Plan, run_text}
use Rattle.script_run.specs.declared.ending.Ending.{Ending}
use Rattle.grown_network.specs.Grown.{grown_plan}
use Rattle.grown_network.specs.Summaries.{demanded, summary}
use Rattle.grown_player.specs.Endings.{IsGrownRun}
use Rattle.command_run.specs.Statuses.{status_of}
use Rattle.command_run.specs.declared.status.Status.{Status}
use Rattle.command_run.specs.declared.status.Status.TheVariants.{Done, WriteFault, NoMemory}

-- the network of a seed was run and a text was written to a sink, and the run had this status
abbrev pub IsGrowth : (Plan → Type 0) → Status → ℕ → Option (List ℕ) → Option (List ℕ) → Type 0
IsGrowth stands status seed before after = (e : Ending) × (status ≡ status_of e) × IsGrownRun stands e seed before after

-- it is done, or the sink failed, or memory ran out: no seed's run is crowded
abbrev pub IsEndOfGrowth : Status → Type 0
IsEndOfGrowth status = (status ≡ Done) ⊎ ((status ≡ WriteFault) ⊎ (status ≡ NoMemory))

-- the last line of a text is `equal yes`
abbrev pub EndsInEqualYes : List ℕ → Type 0
EndsInEqualYes text = (front : List ℕ) × (text ≡ front ++ codes "\nequal yes\n")

-- the run of a seed reports exactly what is demanded of its network, and the summary that was written to a sink says so in its last
-- line
pub record EndsAsDemanded (seed : ℕ) (before after : Option (List ℕ)) : Type 0 where
  pub reports : run_text (grown_plan seed) ≡ demanded seed
  pub wrote : Appends before after (summary seed)
  pub says_so : EndsInEqualYes (summary seed)
