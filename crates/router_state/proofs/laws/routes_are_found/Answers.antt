use Rattle.router_state.proofs.Routed.{route_at}
use Rattle.router_state.proofs.laws.routes_are_found.Goals as goal

pub returns : goal.returns
returns c = route_at
