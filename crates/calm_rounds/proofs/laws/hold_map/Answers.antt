use Rattle.calm_rounds.proofs.Holding.{hold_map}
use Rattle.calm_rounds.proofs.laws.hold_map.Goals as goal

pub returns : goal.returns
returns g c m f = hold_map m g.Q.Claim.holds g.R.Claim.holds f
