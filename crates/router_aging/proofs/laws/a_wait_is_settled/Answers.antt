use Rattle.router_aging.proofs.AfterWait.{a_wait_is_settled}
use Rattle.router_aging.proofs.laws.a_wait_is_settled.Goals as goal

pub returns : goal.returns
returns c = a_wait_is_settled
