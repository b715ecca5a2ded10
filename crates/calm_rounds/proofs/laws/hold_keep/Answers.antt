use Rattle.calm_rounds.proofs.Holding.{hold_keep}
use Rattle.calm_rounds.proofs.laws.hold_keep.Goals as goal

pub returns : goal.returns
returns g c m f = hold_keep m g.Q.Claim.holds g.J.Claim.holds f
