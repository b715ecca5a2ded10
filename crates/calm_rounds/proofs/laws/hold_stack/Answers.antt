use Rattle.calm_rounds.proofs.Holding.{hold_stack}
use Rattle.calm_rounds.proofs.laws.hold_stack.Goals as goal

pub returns : goal.returns
returns g c m k n f = hold_stack m g.Q.Claim.holds g.R.Claim.holds n f k
