use Rattle.settle_loss.proofs.WindowPaths.{paths_become_sound_in_windows}
use Rattle.settle_loss.proofs.laws.paths_become_sound_in_windows.Goals as goal

pub returns : goal.returns
returns c q w rs ws bounds = paths_become_sound_in_windows q w rs ws bounds
