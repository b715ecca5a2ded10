use Rattle.script_overhead.proofs.Plain.{a_plain_run_has_the_room_that_is_said}
use Rattle.script_overhead.proofs.laws.a_plain_run_has_the_room_that_is_said.Goals as goal

pub returns : goal.returns
returns c = a_plain_run_has_the_room_that_is_said
