use Rattle.laws_safety.specs.Refusals.{ARefusedCallChangesNothing}
use Rattle.laws_safety.proofs.Calls.{a_refused_call}
use Rattle.laws_safety.proofs.Runs.{at_every_step}
use Rattle.laws_safety.proofs.laws.a_refused_call_changes_nothing.Goals as goal

pub returns : goal.returns
returns c = at_every_step ARefusedCallChangesNothing a_refused_call
