use Rattle.router_state.proofs.Leaving.{forgets}
use Rattle.router_state.proofs.laws.names_are_forgotten.Goals as goal

pub returns : goal.returns
returns c = forgets
