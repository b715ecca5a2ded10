use Rattle.calm_rounds.proofs.Holding.{hold_later}
use Rattle.calm_rounds.proofs.laws.hold_later.Goals as goal

pub returns : goal.returns
returns g c m = hold_later m g.Q.Claim.holds
