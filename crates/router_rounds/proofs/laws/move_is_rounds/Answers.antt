use Rattle.router_rounds.proofs.RouteRounds.{move_is_rounds}
use Rattle.router_rounds.proofs.laws.move_is_rounds.Goals as goal

pub returns : goal.returns
returns c = move_is_rounds
