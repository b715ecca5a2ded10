use Rattle.calm_rounds.proofs.Holding.{hold_end}
use Rattle.calm_rounds.proofs.laws.hold_end.Goals as goal

pub returns : goal.returns
returns g c m = hold_end m g.Q.Claim.holds
