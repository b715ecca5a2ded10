use Rattle.laws_network.proofs.Keeping.{calm_rounds_keep_bounds}
use Rattle.settle_paths.proofs.SaidPaths.{said_paths_are_kept}
use Rattle.settle_paths.proofs.laws.said_paths_are_kept.Goals as goal

pub returns : goal.returns
returns c q w k h v there group rs calm bounds said = said_paths_are_kept q w k h v there group rs calm (calm_rounds_keep_bounds q w rs calm bounds) said
