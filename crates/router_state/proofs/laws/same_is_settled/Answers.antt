use Rattle.router_state.proofs.Counted.{same_is_settled}
use Rattle.router_state.proofs.laws.same_is_settled.Goals as goal

pub returns : goal.returns
returns c = same_is_settled
