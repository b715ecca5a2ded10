use Rattle.laws_network.proofs.Keeping.{calm_rounds_keep_bounds}
use Rattle.settle_paths.proofs.SoundPaths.{only_said_paths_are_kept}
use Rattle.settle_paths.proofs.laws.only_said_paths_are_kept.Goals as goal

pub returns : goal.returns
returns c q w k e lt allowed rs calm bounds says = only_said_paths_are_kept q w k e lt allowed rs calm (calm_rounds_keep_bounds q w rs calm bounds) says
