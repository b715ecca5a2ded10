use Rattle.laws_network.proofs.Keeping.{calm_rounds_keep_bounds}
use Rattle.settle_paths.proofs.CompletePaths.{paths_settle}
use Rattle.settle_paths.proofs.laws.paths_settle.Goals as goal

pub returns : goal.returns
returns c q w rs calm locals bounds = paths_settle q w rs calm locals (calm_rounds_keep_bounds q w rs calm bounds)
