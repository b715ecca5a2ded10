use Rattle.calm_rounds.proofs.Windows.{settles_in_two}
use Rattle.calm_rounds.proofs.loss_laws.only_what_is_said_is_kept_in_two_windows.Goals as goal

pub returns : goal.returns
returns g c m t s laws = settles_in_two m t s g.L.Key.state laws g.P.Claim.holds
