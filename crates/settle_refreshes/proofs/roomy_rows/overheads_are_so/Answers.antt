use Rattle.settle_refreshes.proofs.WorkedRoom.{overheads_are_so}
use Rattle.settle_refreshes.proofs.roomy_rows.overheads_are_so.Goals as goal

pub returns : goal.returns
returns c = overheads_are_so
