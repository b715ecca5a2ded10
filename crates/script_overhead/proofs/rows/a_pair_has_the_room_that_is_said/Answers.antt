use Rattle.script_overhead.proofs.Worked.{a_pair_has_the_room_that_is_said}
use Rattle.script_overhead.proofs.rows.a_pair_has_the_room_that_is_said.Goals as goal

pub returns : goal.returns
returns c = a_pair_has_the_room_that_is_said
