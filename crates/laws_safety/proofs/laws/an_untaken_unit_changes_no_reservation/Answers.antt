use Rattle.laws_safety.specs.Refusals.{AnUntakenUnitChangesNothing}
use Rattle.laws_safety.proofs.Arrivals.{an_untaken_unit}
use Rattle.laws_safety.proofs.Runs.{at_every_step}
use Rattle.laws_safety.proofs.laws.an_untaken_unit_changes_no_reservation.Goals as goal

pub returns : goal.returns
returns c = at_every_step AnUntakenUnitChangesNothing an_untaken_unit
