use Rattle.calm_rounds.proofs.Holding.{hold_always}
use Rattle.calm_rounds.proofs.laws.hold_always.Goals as goal

pub returns : goal.returns
returns g c m f = hold_always m g.J.Claim.holds f
