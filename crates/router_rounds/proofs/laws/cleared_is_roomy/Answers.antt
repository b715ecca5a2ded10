use Rattle.router_rounds.proofs.RoundClaims.{cleared_is_roomy}
use Rattle.router_rounds.proofs.laws.cleared_is_roomy.Goals as goal

pub returns : goal.returns
returns c = cleared_is_roomy
