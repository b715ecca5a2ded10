use Rattle.settle_refreshes.proofs.WorkedRoom.{a_pair_is_roomy}
use Rattle.settle_refreshes.proofs.roomy_rows.a_pair_is_roomy.Goals as goal

pub returns : goal.returns
returns c = a_pair_is_roomy
