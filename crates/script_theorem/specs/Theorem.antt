-- The theorem, of a plan: what it reports once its network has settled, and what holds at each of its steps, however its run ends. And
-- which plans have it: those of any lines that may begin a script.
use Rattle.std.specs.Prelude.{◌≡◌, ℕ, false, List, ◌∷◌, ◌++◌, Option}
use Rattle.calm_rounds.specs.Hold.{Visited}
use Rattle.calm_rounds.specs.Machine.{run}
use Rattle.tree_model.specs.Goals.{DemandsFit}
use Rattle.network_model.specs.Bounds.{IsSettled}
use Rattle.network_model.specs.Locals.{locals_of}
use Rattle.network_model.specs.Runs.{Plan, first_world, is_crowded_run, last_world, steps_of_run}
use Rattle.network_model.specs.Steps.{Report, Step, machine}
use Rattle.network_model.specs.Worlds.{World}
use Rattle.laws_network.specs.Runs.{IsFitRun}
use Rattle.script_grammar.specs.Draft.{Draft, nothing, plan_of}
use Rattle.script_grammar.specs.Grammar.{Leads}
use Rattle.script_theorem.specs.AdvertReports.{SettlesToTheAdverts}
use Rattle.script_theorem.specs.Demands.{AppendsTheDemand, moment}
use Rattle.script_theorem.specs.FlagReports.{SettlesToTheFlags}
use Rattle.script_theorem.specs.Purged.{ReportsNothingStale}
use Rattle.script_theorem.specs.Sessions.{ReportsEachSession}
use Rattle.script_theorem.specs.Writing.{OnlyWrite}
use Rattle.laws_safety.specs.Blockades.{ABlockadeStays, AResvErrTearsNothing, AnAdmissionErrorSetsItsBlockade, BlockadesDropNothing, EachResvSaysWhatGoesToward, WhatGoesOnIsBelow}
use Rattle.laws_safety.specs.Books.{AreBooksWithinCapacity}
use Rattle.laws_safety.specs.Confirmations.{AConfirmationIsHeld, ConfirmationsHaveBegun}
use Rattle.laws_safety.specs.Refusals.{ARefusedCallChangesNothing, ARefusedResvChangesNoReservation, AResvChangesWhatItTakesAlone, AUnitThatPassesIsBooked, AnUntakenUnitChangesNothing}

-- ---- self-stabilisation
-- each report at a settled moment, or behind steps that only write after one, where the demands of that moment fit, appends the text
-- of the demand
abbrev pub SettlesToTheDemand : Plan → Type 0
SettlesToTheDemand p =
    (ss still : List Step) (e : Option ℕ) (ts : List Step) → steps_of_run p ≡ (ss ++ still) ++ Report e ∷ ts → IsSettled p.quarter (first_world p) ss → OnlyWrite still
    → DemandsFit (moment p (ss ++ still)).net (locals_of (moment p (ss ++ still))) → AppendsTheDemand p (ss ++ still) e ts

-- ---- safety
-- in the first world and in that after each step no book passes the capacity of its interface
abbrev pub IsNeverOver : Plan → Type 0
IsNeverOver p = Visited (machine p.quarter) AreBooksWithinCapacity (steps_of_run p) (first_world p)

-- a world of the run: that behind some of its first steps
pub record IsWorldOf (p : Plan) (w : World) : Type 0 where
  pub made : List Step
  pub ahead : List Step
  pub parts : steps_of_run p ≡ made ++ ahead
  pub is : w ≡ moment p made

-- C holds of each step, in the world in which it is made, with the quarter of the period
abbrev pub AtEachStep : (ℕ → Step → World → Type 0) → Plan → Type 0
AtEachStep C p = (ss : List Step) (s : Step) (ts : List Step) → steps_of_run p ≡ ss ++ s ∷ ts → C p.quarter s (run (machine p.quarter) ss (first_world p))

-- the refusal of a local call changes nothing, that of a Resv as a whole or of one of its units no reservation; and a Resv changes no
-- reservations of its node but those of its units that are taken
pub record RefusalsChangeNothing (p : Plan) : Type 0 where
  pub calls : AtEachStep ARefusedCallChangesNothing p
  pub resvs : AtEachStep ARefusedResvChangesNoReservation p
  pub units : AtEachStep AnUntakenUnitChangesNothing p
  pub alone : AtEachStep AResvChangesWhatItTakesAlone p

pub record BlockadePromises (p : Plan) : Type 0 where
  -- each Resv that is sent asks for exactly what goes toward its hop by its sender's facts after the step
  pub says : AtEachStep EachResvSaysWhatGoesToward p
  -- at a node with any facts: of a unit with a request that is not blockaded the join of all such requests goes on, each below what a
  -- blockade keeps back
  pub below : WhatGoesOnIsBelow
  -- an admission error that its node takes sets its blockade
  pub set : AtEachStep AnAdmissionErrorSetsItsBlockade p
  -- a blockade stays until it dies, such an error replaces it, or its node is cleared
  pub stays : AtEachStep ABlockadeStays p
  -- a unit that passes the tests is booked on arrival
  pub booked : AtEachStep AUnitThatPassesIsBooked p
  -- at a node with any facts: a blockade drops no unit, and none goes on with less than the meet of its requests
  pub whole : BlockadesDropNothing
  -- a step that delivers a ResvErr sends no ResvTear and changes no reservation
  pub kept : AtEachStep AResvErrTearsNothing p

-- a ResvConf confirms what stands at the node where it begins
pub record ConfirmationPromises (p : Plan) : Type 0 where
  -- a node that sends one begins it, and then holds at least what is confirmed, or passes it on
  pub held : AtEachStep AConfirmationIsHeld p
  -- so one in flight, or that arrives, began at an earlier step, unless it was injected
  pub begun : ConfirmationsHaveBegun p

-- at each step
pub record IsSafe (p : Plan) : Type 0 where
  pub books : IsNeverOver p
  -- the world in which the run ends is one of these: where a step would crowd it, the last before
  pub ends : IsWorldOf p (last_world p)
  pub refusals : RefusalsChangeNothing p
  pub blockades : BlockadePromises p
  pub confirmations : ConfirmationPromises p

-- ---- both
-- the plan of a run that is not crowded heals itself, and is safe on the way
pub record HealsItself (p : Plan) : Type 0 where
  pub reports : SettlesToTheDemand p
  -- and whether or not the demands fit, nothing stale is reported
  pub purged : ReportsNothingStale p
  -- and of each session that fits exactly what is demanded of it, whatever the others ask for
  pub sessions : ReportsEachSession p
  -- each `flags` line at a settled moment appends the flags that are demanded, where the demands fit
  pub flags : SettlesToTheFlags p
  -- and each `adverts` line behind 7 H + 4 calm rounds the advertisements that are demanded, whether or not the demands fit
  pub adverts : SettlesToTheAdverts p
  pub safe : IsSafe p

-- ---- the laws
abbrev pub FitRunsAreSafe : Type 0
FitRunsAreSafe = (p : Plan) → IsFitRun p → IsSafe p

-- of lines that may begin a script, all of one or those before a bad line
abbrev pub FirstLinesAreSafe : Type 0
FirstLinesAreSafe = (lines : List (List ℕ)) (d : Draft) → Leads nothing lines d → IsSafe (plan_of d)

abbrev pub FirstLinesHealThemselves : Type 0
FirstLinesHealThemselves = (lines : List (List ℕ)) (d : Draft) → Leads nothing lines d → is_crowded_run (plan_of d) ≡ false → HealsItself (plan_of d)
