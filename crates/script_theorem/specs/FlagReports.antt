-- What a settled `flags` line writes: the flags that are demanded, a function of the network, its senders and its wants.
use Rattle.std.specs.Prelude.{◌≡◌, ◌++◌, false, List, ◌∷◌}
use Rattle.tree_model.specs.Goals.{DemandsFit}
use Rattle.network_model.specs.Bounds.{IsSettled}
use Rattle.network_model.specs.Locals.{locals_of}
use Rattle.network_model.specs.Runs.{Plan, first_world, is_crowded_run, run_text, steps_of_run, text_of, written}
use Rattle.network_model.specs.Steps.{Flags, Step, step}
use Rattle.laws_network.specs.Runs.{AreFitSenders, IsFitRun}
use Rattle.settle_network.specs.DemandedFlags.{demanded_flags}
use Rattle.settle_network.specs.Flags.{AreAlike}
use Rattle.script_theorem.specs.Demands.{moment}
use Rattle.script_theorem.specs.Writing.{OnlyWrite}

-- the text of the run: that of the steps before the `flags` line, the flags that are demanded, and that of the steps behind it
abbrev pub AppendsTheFlags : Plan → List Step → List Step → Type 0
AppendsTheFlags p ss ts =
    run_text p ≡ text_of p.quarter p.names ss (first_world p)
    ++ (demanded_flags p.names (moment p ss).net (locals_of (moment p ss))
    ++ text_of p.quarter p.names ts (step p.quarter Flags (moment p ss)))

-- a `flags` line at a settled moment, or behind steps that only write after one, where the demands of that moment fit
abbrev pub SettlesToTheFlags : Plan → Type 0
SettlesToTheFlags p =
    (ss still ts : List Step) → steps_of_run p ≡ (ss ++ still) ++ Flags ∷ ts → IsSettled p.quarter (first_world p) ss → OnlyWrite still
    → DemandsFit (moment p (ss ++ still)).net (locals_of (moment p (ss ++ still))) → AppendsTheFlags p (ss ++ still) ts

-- in a run that is not crowded
abbrev pub ASettledFlagsLineIsDemanded : Type 0
ASettledFlagsLineIsDemanded = (p : Plan) → IsFitRun p → AreFitSenders p → is_crowded_run p ≡ false → SettlesToTheFlags p

-- ---- at two moments
-- a moment behind these steps of the run at which its flags are settled: the steps that only write are behind a settled moment, and the
-- demands fit
pub record IsFlagged (p : Plan) (ss : List Step) : Type 0 where
  pub rounds : List Step
  pub still : List Step
  pub ahead : List Step
  pub parts : ss ≡ rounds ++ still
  pub front : steps_of_run p ≡ ss ++ ahead
  pub settled : IsSettled p.quarter (first_world p) rounds
  pub writes : OnlyWrite still
  pub fit : DemandsFit (moment p ss).net (locals_of (moment p ss))

-- at two such moments at which the same is asked of the same network, a `flags` line writes the same
abbrev pub SettledFlagsAreAFunction : Type 0
SettledFlagsAreAFunction =
    (p : Plan) → IsFitRun p → AreFitSenders p → (ss ts : List Step) → IsFlagged p ss → IsFlagged p ts → AreAlike (moment p ss) (moment p ts)
    → written p.quarter p.names Flags (moment p ss) ≡ written p.quarter p.names Flags (moment p ts)
