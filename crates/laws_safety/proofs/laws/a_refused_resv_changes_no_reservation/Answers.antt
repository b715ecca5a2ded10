use Rattle.laws_safety.specs.Refusals.{ARefusedResvChangesNoReservation}
use Rattle.laws_safety.proofs.Arrivals.{a_refused_resv}
use Rattle.laws_safety.proofs.Runs.{at_every_step}
use Rattle.laws_safety.proofs.laws.a_refused_resv_changes_no_reservation.Goals as goal

pub returns : goal.returns
returns c = at_every_step ARefusedResvChangesNoReservation a_refused_resv
