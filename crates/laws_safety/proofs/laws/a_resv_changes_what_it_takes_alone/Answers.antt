use Rattle.laws_safety.specs.Refusals.{AResvChangesWhatItTakesAlone}
use Rattle.laws_safety.proofs.Arrivals.{a_resv_alone}
use Rattle.laws_safety.proofs.Runs.{at_every_step}
use Rattle.laws_safety.proofs.laws.a_resv_changes_what_it_takes_alone.Goals as goal

pub returns : goal.returns
returns c = at_every_step AResvChangesWhatItTakesAlone a_resv_alone
