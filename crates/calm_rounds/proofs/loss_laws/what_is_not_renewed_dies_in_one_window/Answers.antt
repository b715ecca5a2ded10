use Rattle.calm_rounds.proofs.Windows.{dies_in_one}
use Rattle.calm_rounds.proofs.loss_laws.what_is_not_renewed_dies_in_one_window.Goals as goal

pub returns : goal.returns
returns g c m t s laws = dies_in_one m t s g.L.Key.state laws g.P.Claim.holds
