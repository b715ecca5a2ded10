use Rattle.router_aging.proofs.Clearing.{clear_is_settled}
use Rattle.router_aging.proofs.laws.clear_is_settled.Goals as goal

pub returns : goal.returns
returns c = clear_is_settled
