use Rattle.settle_loss.proofs.WindowPaths.{paths_settle_in_windows}
use Rattle.settle_loss.proofs.laws.paths_settle_in_windows.Goals as goal

pub returns : goal.returns
returns c q w rs ws locals bounds refreshed = paths_settle_in_windows q w rs ws locals bounds refreshed
