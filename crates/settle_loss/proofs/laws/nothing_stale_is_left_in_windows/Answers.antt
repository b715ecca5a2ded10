use Rattle.settle_loss.proofs.WindowSettled.{nothing_stale_is_left_in_windows}
use Rattle.settle_loss.proofs.laws.nothing_stale_is_left_in_windows.Goals as goal

pub returns : goal.returns
returns c q w rs ws start = nothing_stale_is_left_in_windows q w rs ws start
