use Rattle.calm_rounds.proofs.Holding.{hold_both}
use Rattle.calm_rounds.proofs.laws.hold_both.Goals as goal

pub returns : goal.returns
returns g c m = hold_both m g.Q.Claim.holds g.R.Claim.holds
