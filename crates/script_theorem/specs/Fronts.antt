-- A run of which a front of the text was written, since it ended early: each report that stands in it whole, by the theorem.
use Rattle.std.specs.Prelude.{◌≡◌, ℕ, ◌≤◌, false, List, [], ◌∷◌, ◌++◌, Option, length}
use Rattle.tree_model.specs.Goals.{DemandsFit}
use Rattle.network_model.specs.Bounds.{IsPurged, IsSettled}
use Rattle.network_model.specs.DemandTexts.{demand_text}
use Rattle.network_model.specs.Locals.{locals_of}
use Rattle.network_model.specs.Runs.{Plan, first_world, is_crowded_run, run_text, steps_of_run, text_of}
use Rattle.network_model.specs.Steps.{Adverts, Flags, Report, Step}
use Rattle.settle_adverts.specs.Demanded.{advertised_senders, demanded_adverts}
use Rattle.settle_network.specs.DemandedFlags.{demanded_flags}
use Rattle.script_theorem.specs.AdvertReports.{AreAdvertsSettled}
use Rattle.script_theorem.specs.Demands.{moment}
use Rattle.script_theorem.specs.Purged.{AppendsAtMostTheDemand, books_text}
use Rattle.script_theorem.specs.Sessions.{AppendsTheSessions}
use Rattle.script_theorem.specs.Writing.{OnlyWrite}
use Rattle.script_theorem.specs.Theorem.{HealsItself}

-- the text of the run begins with this one
pub record IsFront (p : Plan) (text : List ℕ) : Type 0 where
  pub more : List ℕ
  pub parts : run_text p ≡ text ++ more

module _ (p : Plan) (text : List ℕ) where
  -- it has all that these steps of the run write, and that the step behind them does
  abbrev pub HasWhole : List Step → Step → Type 0
  HasWhole ss s = length (text_of p.quarter p.names (ss ++ s ∷ []) (first_world p)) ≤ length text

  -- behind what these steps write it goes on with this
  abbrev pub GoesOnWith : List Step → List ℕ → Type 0
  GoesOnWith ss more = (rest : List ℕ) × (text ≡ text_of p.quarter p.names ss (first_world p) ++ (more ++ rest))

  -- each report that it has whole, at a settled moment or behind steps that only write after one, is the text of the demand, where the
  -- demands of that moment fit
  abbrev pub HasTheDemands : Type 0
  HasTheDemands =
      (ss still : List Step) (e : Option ℕ) (ts : List Step) → steps_of_run p ≡ (ss ++ still) ++ Report e ∷ ts → IsSettled p.quarter (first_world p) ss → OnlyWrite still
      → DemandsFit (moment p (ss ++ still)).net (locals_of (moment p (ss ++ still))) → HasWhole (ss ++ still) (Report e)
      → GoesOnWith (ss ++ still) (demand_text p.names (moment p (ss ++ still)).net (locals_of (moment p (ss ++ still))) e)

  -- each that it has whole, at a purged moment or behind steps that only write after one, is the text of books that are at most the
  -- demands, whether or not these fit
  abbrev pub HasNothingStale : Type 0
  HasNothingStale =
      (ss still : List Step) (e : Option ℕ) (ts : List Step) → steps_of_run p ≡ (ss ++ still) ++ Report e ∷ ts → IsPurged p.quarter (first_world p) ss → OnlyWrite still
      → HasWhole (ss ++ still) (Report e)
      → (at_most : AppendsAtMostTheDemand p (ss ++ still) e ts) × GoesOnWith (ss ++ still) (books_text p.names (moment p (ss ++ still)).net at_most.books e)

  -- each that it has whole, at a settled moment or behind steps that only write after one, is the text of books that have exactly the
  -- demanded entries of each session that fits, whatever the others ask for
  abbrev pub HasEachSession : Type 0
  HasEachSession =
      (ss still : List Step) (e : Option ℕ) (ts : List Step) → steps_of_run p ≡ (ss ++ still) ++ Report e ∷ ts → IsSettled p.quarter (first_world p) ss → OnlyWrite still
      → HasWhole (ss ++ still) (Report e)
      → (each : AppendsTheSessions p (ss ++ still) e ts) × GoesOnWith (ss ++ still) (books_text p.names (moment p (ss ++ still)).net each.at_most.books e)

  -- what each `flags` line wrote, if it has that whole, at a settled moment or behind steps that only write after one, are the flags that
  -- are demanded, where the demands of that moment fit
  abbrev pub HasTheFlags : Type 0
  HasTheFlags =
      (ss still ts : List Step) → steps_of_run p ≡ (ss ++ still) ++ Flags ∷ ts → IsSettled p.quarter (first_world p) ss → OnlyWrite still
      → DemandsFit (moment p (ss ++ still)).net (locals_of (moment p (ss ++ still))) → HasWhole (ss ++ still) Flags
      → GoesOnWith (ss ++ still) (demanded_flags p.names (moment p (ss ++ still)).net (locals_of (moment p (ss ++ still))))

  -- what each `adverts` line wrote, if it has that whole, behind 7 H + 4 calm rounds or steps that only write after them, are the
  -- advertisements that are demanded, whether or not the demands fit
  abbrev pub HasTheAdverts : Type 0
  HasTheAdverts =
      (ss still ts : List Step) → steps_of_run p ≡ (ss ++ still) ++ Adverts ∷ ts → AreAdvertsSettled p.quarter (first_world p) ss → OnlyWrite still → HasWhole (ss ++ still) Adverts
      → GoesOnWith (ss ++ still) (demanded_adverts p.names (moment p (ss ++ still)).net (advertised_senders (moment p (ss ++ still))))

  pub record HasHealedReports : Type 0 where
    pub demands : HasTheDemands
    pub purged : HasNothingStale
    pub sessions : HasEachSession
    pub flags : HasTheFlags
    pub adverts : HasTheAdverts

-- each front of the text of a run that heals itself, and is not crowded
abbrev pub FrontsHaveHealedReports : Type 0
FrontsHaveHealedReports = (p : Plan) → is_crowded_run p ≡ false → HealsItself p → (text : List ℕ) → IsFront p text → HasHealedReports p text
