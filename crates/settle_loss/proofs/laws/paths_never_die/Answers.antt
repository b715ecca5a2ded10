use Rattle.settle_loss.proofs.LastingPaths.{paths_never_die}
use Rattle.settle_loss.proofs.laws.paths_never_die.Goals as goal

pub returns : goal.returns
returns c q w ss locals bounds sound order last quiet refreshed = paths_never_die q w ss locals bounds sound order last quiet refreshed
