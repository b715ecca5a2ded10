use Rattle.settle_paths.proofs.CompletePaths.{live_paths_are_kept}
use Rattle.settle_paths.proofs.laws.live_paths_are_kept.Goals as goal

pub returns : goal.returns
returns c q w d k t h locals live there deep rs calm sure = live_paths_are_kept q w d k t h locals live there deep rs calm sure
