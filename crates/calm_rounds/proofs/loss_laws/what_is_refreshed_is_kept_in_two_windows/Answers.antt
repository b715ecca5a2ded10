use Rattle.calm_rounds.proofs.Windows.{kept_in_two}
use Rattle.calm_rounds.proofs.loss_laws.what_is_refreshed_is_kept_in_two_windows.Goals as goal

pub returns : goal.returns
returns g c m t s laws paced = kept_in_two m t s g.L.Key.state laws paced
