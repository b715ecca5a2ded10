use Rattle.calm_rounds.proofs.LampWindows.{takes_the_windows}
use Rattle.calm_rounds.proofs.loss_laws.a_mute_beacon_takes_the_windows.Goals as goal

pub returns : goal.returns
returns c = takes_the_windows
