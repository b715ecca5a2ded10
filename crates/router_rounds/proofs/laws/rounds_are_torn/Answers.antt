use Rattle.router_rounds.proofs.RoundClaims.{rounds_are_torn}
use Rattle.router_rounds.proofs.laws.rounds_are_torn.Goals as goal

pub returns : goal.returns
returns c = rounds_are_torn
