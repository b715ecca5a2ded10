use Rattle.settle_refreshes.proofs.WorkedRoom.{what_is_left_over_is_refreshed}
use Rattle.settle_refreshes.proofs.roomy_rows.what_is_left_over_is_refreshed.Goals as goal

pub returns : goal.returns
returns c = what_is_left_over_is_refreshed
