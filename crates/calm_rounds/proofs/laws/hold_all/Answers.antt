use Rattle.calm_rounds.proofs.Holding.{hold_all}
use Rattle.calm_rounds.proofs.laws.hold_all.Goals as goal

pub returns : goal.returns
returns g c m = hold_all m (λ a u. g.Q.Claim.holds (a, u))
