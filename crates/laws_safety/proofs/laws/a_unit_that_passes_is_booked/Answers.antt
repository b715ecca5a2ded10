use Rattle.laws_safety.specs.Refusals.{AUnitThatPassesIsBooked}
use Rattle.laws_safety.proofs.Arrivals.{a_unit_that_passes}
use Rattle.laws_safety.proofs.Runs.{at_every_step}
use Rattle.laws_safety.proofs.laws.a_unit_that_passes_is_booked.Goals as goal

pub returns : goal.returns
returns c = at_every_step AUnitThatPassesIsBooked a_unit_that_passes
