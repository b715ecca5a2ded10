-- Each step of a fit run is safe; and lines that may begin a script are a fit run.
use Rattle.std.proofs.Common.{◌≡◌, ℕ, List, [], ◌∷◌, ◌++◌, Bool, true, false, cond, ap, refl}
use Rattle.calm_rounds.specs.Machine.{run}
use Rattle.network_model.specs.Runs.{Plan, first_world, is_crowded, steps_of_run, uncrowded}
use Rattle.network_model.specs.Steps.{Step, machine, step}
use Rattle.network_model.specs.Worlds.{World}
use Rattle.laws_network.specs.Runs.{IsFitRun}
use Rattle.script_grammar.specs.Draft.{plan_of}
use Rattle.laws_scripts.proofs.EventLines.{first_lines_are_a_fit_run}
use Rattle.laws_scripts.proofs.SenderLines.{first_lines_let_few_send}
use Rattle.script_theorem.proofs.Demands.{a_settled_report_is_the_demand}
use Rattle.script_theorem.proofs.AdvertReports.{a_settled_adverts_line_is_demanded}
use Rattle.script_theorem.proofs.FlagReports.{a_settled_flags_line_is_demanded}
use Rattle.script_theorem.proofs.Purged.{a_purged_report_is_at_most_the_demand}
use Rattle.script_theorem.proofs.Sessions.{a_settled_report_shows_each_session}
use Rattle.laws_safety.specs.Blockades.{ABlockadeStays, AResvErrTearsNothing, AnAdmissionErrorSetsItsBlockade, EachResvSaysWhatGoesToward}
use Rattle.laws_safety.specs.Books.{AreBooksWithinCapacity}
use Rattle.laws_safety.specs.Confirmations.{AConfirmationIsHeld}
use Rattle.laws_safety.specs.Refusals.{ARefusedCallChangesNothing, ARefusedResvChangesNoReservation, AResvChangesWhatItTakesAlone, AUnitThatPassesIsBooked, AnUntakenUnitChangesNothing}
use Rattle.laws_safety.proofs.Arrivals.{a_refused_resv, a_resv_alone, a_unit_that_passes, an_untaken_unit}
use Rattle.laws_safety.proofs.Books.{books_within}
use Rattle.laws_safety.proofs.Calls.{a_refused_call}
use Rattle.laws_safety.proofs.Confirming.{a_confirmation_is_held, each_confirmation_has_begun}
use Rattle.laws_safety.proofs.Errors.{a_blockade_stays, a_resv_err, an_admission_error_sets_its_blockade, blockades_drop_nothing}
use Rattle.laws_safety.proofs.Runs.{at_every_step, in_every_world}
use Rattle.laws_safety.proofs.Speaking.{each_resv}
use Rattle.laws_safety.proofs.Walls.{what_goes_on_is_below}
use Rattle.script_theorem.specs.Theorem.{BlockadePromises, FirstLinesAreSafe, FirstLinesHealThemselves, FitRunsAreSafe, IsWorldOf, RefusalsChangeNothing}

refusals : (p : Plan) → IsFitRun p → RefusalsChangeNothing p
refusals p fit = record {
  calls = at_every_step ARefusedCallChangesNothing a_refused_call p fit;
  resvs = at_every_step ARefusedResvChangesNoReservation a_refused_resv p fit;
  units = at_every_step AnUntakenUnitChangesNothing an_untaken_unit p fit;
  alone = at_every_step AResvChangesWhatItTakesAlone a_resv_alone p fit;
}

blockades : (p : Plan) → IsFitRun p → BlockadePromises p
blockades p fit = record {
  says = at_every_step EachResvSaysWhatGoesToward each_resv p fit;
  below = what_goes_on_is_below;
  set = at_every_step AnAdmissionErrorSetsItsBlockade (λ q s w bounds. an_admission_error_sets_its_blockade q s w) p fit;
  stays = at_every_step ABlockadeStays (λ q s w bounds. a_blockade_stays q s w) p fit;
  booked = at_every_step AUnitThatPassesIsBooked a_unit_that_passes p fit;
  whole = blockades_drop_nothing;
  kept = at_every_step AResvErrTearsNothing a_resv_err p fit;
}

-- the steps before the one that would crowd the run are its first
made_of : (q : ℕ) (ss : List Step) (w : World) → (ahead : List Step) × (ss ≡ uncrowded q ss w ++ ahead)
made_of q [] w = ([], refl)
made_of q (s ∷ ss) w = by (is_crowded (step q s w)) (made_of q ss (step q s w))
  where
    by : (b : Bool) → (ahead : List Step) × (ss ≡ uncrowded q ss (step q s w) ++ ahead) → (ahead : List Step) × (s ∷ ss ≡ cond b [] (s ∷ uncrowded q ss (step q s w)) ++ ahead)
    by true h = (s ∷ ss, refl)
    by false h = (h.0, ap (λ (z : List Step). s ∷ z) h.1)

ends_there : (p : Plan) → IsWorldOf p (run (machine p.quarter) (uncrowded p.quarter (steps_of_run p) (first_world p)) (first_world p))
ends_there p =
    let h = made_of p.quarter (steps_of_run p) (first_world p) in
    record { made = uncrowded p.quarter (steps_of_run p) (first_world p); ahead = h.0; parts = h.1; is = refl }

pub fit_runs_are_safe : FitRunsAreSafe
fit_runs_are_safe p fit = record {
  books = in_every_world AreBooksWithinCapacity books_within p fit;
  ends = ends_there p;
  refusals = refusals p fit;
  blockades = blockades p fit;
  confirmations = record { held = at_every_step AConfirmationIsHeld a_confirmation_is_held p fit; begun = each_confirmation_has_begun p fit };
}

pub first_lines_are_safe : FirstLinesAreSafe
first_lines_are_safe lines d leads = fit_runs_are_safe (plan_of d) (first_lines_are_a_fit_run lines d leads)

pub first_lines_heal_themselves : FirstLinesHealThemselves
first_lines_heal_themselves lines d leads roomy =
    let fit = first_lines_are_a_fit_run lines d leads in
    record {
      reports = a_settled_report_is_the_demand (plan_of d) fit (first_lines_let_few_send lines d leads) roomy;
      purged = a_purged_report_is_at_most_the_demand (plan_of d) fit roomy;
      sessions = a_settled_report_shows_each_session (plan_of d) fit (first_lines_let_few_send lines d leads) roomy;
      flags = a_settled_flags_line_is_demanded (plan_of d) fit (first_lines_let_few_send lines d leads) roomy;
      adverts = a_settled_adverts_line_is_demanded (plan_of d) fit (first_lines_let_few_send lines d leads) roomy;
      safe = fit_runs_are_safe (plan_of d) fit;
    }
