-- What a settled report appends: the text of the demand.
use Rattle.std.specs.Prelude.{◌≡◌, ℕ, ◌++◌, false, List, ◌∷◌, Option}
use Rattle.calm_rounds.specs.Machine.{run}
use Rattle.network_model.specs.DemandTexts.{demand_text}
use Rattle.tree_model.specs.Goals.{DemandsFit}
use Rattle.network_model.specs.Bounds.{IsSettled}
use Rattle.network_model.specs.Locals.{locals_of}
use Rattle.network_model.specs.Runs.{Plan, first_world, is_crowded_run, run_text, steps_of_run, text_of}
use Rattle.network_model.specs.Steps.{Report, Step, machine, step}
use Rattle.network_model.specs.Worlds.{World}
use Rattle.laws_network.specs.Runs.{AreFitSenders, IsFitRun}
use Rattle.script_theorem.specs.Writing.{OnlyWrite}

-- the world of a run after these steps
abbrev pub moment : Plan → List Step → World
moment p ss = run (machine p.quarter) ss (first_world p)

-- the text of the run: that of the steps before the report, the text of the demand, and that of the steps behind it
abbrev pub AppendsTheDemand : Plan → List Step → Option ℕ → List Step → Type 0
AppendsTheDemand p ss e ts =
    run_text p ≡ text_of p.quarter p.names ss (first_world p)
    ++ (demand_text p.names (moment p ss).net (locals_of (moment p ss)) e
    ++ text_of p.quarter p.names ts (step p.quarter (Report e) (moment p ss)))

-- a report at a settled moment, or behind steps that only write after one, where the run is not crowded and the demands of
-- the local senders and wants of that moment fit
abbrev pub ASettledReportIsTheDemand : Type 0
ASettledReportIsTheDemand =
    (p : Plan) → IsFitRun p → AreFitSenders p → is_crowded_run p ≡ false → (ss still : List Step) (e : Option ℕ) (ts : List Step)
    → steps_of_run p ≡ (ss ++ still) ++ Report e ∷ ts → IsSettled p.quarter (first_world p) ss → OnlyWrite still
    → DemandsFit (moment p (ss ++ still)).net (locals_of (moment p (ss ++ still))) → AppendsTheDemand p (ss ++ still) e ts
