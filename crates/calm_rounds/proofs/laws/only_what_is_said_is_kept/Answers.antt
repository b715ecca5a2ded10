use Rattle.calm_rounds.proofs.Settling.{only_what_is_said_is_kept}
use Rattle.calm_rounds.proofs.laws.only_what_is_said_is_kept.Goals as goal

pub returns : goal.returns
returns g c m t s laws = only_what_is_said_is_kept m t s g.L.Key.state laws g.P.Claim.holds
