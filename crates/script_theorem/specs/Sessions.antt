-- What a settled report shows of each session that fits, whatever the others ask for: exactly what is demanded of it.
use Rattle.std.specs.Prelude.{◌≡◌, ℕ, ◌<◌, ◌++◌, false, List, ◌∷◌, length, Option}
use Rattle.rsvp_base.specs.declared.session.Session.{Session}
use Rattle.tree_model.specs.Goals.{demand_of}
use Rattle.network_model.specs.Bounds.{IsSettled}
use Rattle.network_model.specs.Locals.{locals_of}
use Rattle.network_model.specs.Runs.{Plan, first_world, is_crowded_run, steps_of_run}
use Rattle.network_model.specs.Steps.{Report, Step}
use Rattle.laws_network.specs.Runs.{AreFitSenders, IsFitRun}
use Rattle.settle_network.specs.SettleResvs.Sessions.{SessionFits}
use Rattle.settle_network.specs.Sessions.{HaveTheSameOf}
use Rattle.script_theorem.specs.Demands.{moment}
use Rattle.script_theorem.specs.Purged.{AppendsAtMostTheDemand}
use Rattle.script_theorem.specs.Writing.{OnlyWrite}

-- the report's books are at most the demands, and of each session that fits at that moment they have exactly the entries of the demands
pub record AppendsTheSessions (p : Plan) (ss : List Step) (e : Option ℕ) (ts : List Step) : Type 0 where
  pub at_most : AppendsAtMostTheDemand p ss e ts
  pub exact : (s : Session) → SessionFits (moment p ss).net (locals_of (moment p ss)) s → (i : ℕ) → i < length (moment p ss).net.ends
      → HaveTheSameOf s (at_most.books i) (demand_of (moment p ss).net (locals_of (moment p ss)) i)

-- a report at a settled moment, or behind steps that only write after one
abbrev pub ReportsEachSession : Plan → Type 0
ReportsEachSession p =
    (ss still : List Step) (e : Option ℕ) (ts : List Step) → steps_of_run p ≡ (ss ++ still) ++ Report e ∷ ts → IsSettled p.quarter (first_world p) ss → OnlyWrite still
    → AppendsTheSessions p (ss ++ still) e ts

abbrev pub ASettledReportShowsEachSession : Type 0
ASettledReportShowsEachSession = (p : Plan) → IsFitRun p → AreFitSenders p → is_crowded_run p ≡ false → ReportsEachSession p
