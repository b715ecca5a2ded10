use Rattle.calm_rounds.proofs.Settling.{dies_out}
use Rattle.calm_rounds.proofs.laws.dies_out.Goals as goal

pub returns : goal.returns
returns g c m t s laws = dies_out m t s g.L.Key.state laws g.P.Claim.holds
