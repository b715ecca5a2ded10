-- The run of a seed: at its end all is settled and stands as it was asked, and what it writes is the demand.
use Rattle.std.specs.Prelude.{◌≡◌, ℕ, ◌++◌, List, [], ◌∷◌, None}
use Rattle.network_model.specs.Bounds.{IsSettled}
use Rattle.network_model.specs.Locals.{locals_of}
use Rattle.network_model.specs.Runs.{first_world, run_text, steps_of_run}
use Rattle.network_model.specs.Steps.{Report, Step}
use Rattle.network_model.specs.Worlds.{World}
use Rattle.laws_network.specs.Runs.{AreFitSenders, IsFitRun}
use Rattle.network_model.specs.DemandTexts.{demand_text}
use Rattle.script_theorem.specs.Demands.{moment}
use Rattle.script_theorem.specs.Standing.{AskTheSame}
use Rattle.grown_network.specs.Grown.{asked, grown_net, grown_plan}
use Rattle.grown_network.specs.Nodes.{names_up_to}

-- ---- what it may be
pub record IsFitGrowth (seed : ℕ) : Type 0 where
  pub run : IsFitRun (grown_plan seed)
  pub senders : AreFitSenders (grown_plan seed)

abbrev pub GrownRunsAreFit : Type 0
GrownRunsAreFit = (seed : ℕ) → IsFitGrowth seed

-- ---- how it ends
-- nodes have what is asked of them, and nothing besides
pub record IsAsAsked (seed : ℕ) (w : World) : Type 0 where
  pub net : w.net ≡ grown_net seed
  pub locals : AskTheSame (locals_of w) (asked seed)

-- the last step is the report, and behind all others the network is settled and as asked
pub record EndsSettled (seed : ℕ) : Type 0 where
  pub before : List Step
  pub steps : steps_of_run (grown_plan seed) ≡ before ++ Report None ∷ []
  pub settled : IsSettled (grown_plan seed).quarter (first_world (grown_plan seed)) before
  pub asked : IsAsAsked seed (moment (grown_plan seed) before)

abbrev pub GrownRunsEndSettled : Type 0
GrownRunsEndSettled = (seed : ℕ) → EndsSettled seed

-- ---- what it writes: the demand of all ends of its network, and nothing else
abbrev pub AGrownRunIsItsDemand : Type 0
AGrownRunIsItsDemand = (seed : ℕ) → run_text (grown_plan seed) ≡ demand_text (names_up_to 63) (grown_net seed) (asked seed) None
