use Rattle.calm_rounds.proofs.LampWindows.{settles_in_windows}
use Rattle.calm_rounds.proofs.loss_laws.a_lamp_settles_in_windows.Goals as goal

pub returns : goal.returns
returns c = settles_in_windows
