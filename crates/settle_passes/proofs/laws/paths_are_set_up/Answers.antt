use Rattle.settle_passes.proofs.Spreading.{paths_are_set_up}
use Rattle.settle_passes.proofs.laws.paths_are_set_up.Goals as goal

pub returns : goal.returns
returns c q w s = paths_are_set_up q w s
