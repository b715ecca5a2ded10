use Rattle.calm_rounds.proofs.FourRounds.{rounds_make_windows}
use Rattle.calm_rounds.proofs.loss_laws.four_calm_rounds_make_a_window.Goals as goal

pub returns : goal.returns
returns g c m = rounds_make_windows m
