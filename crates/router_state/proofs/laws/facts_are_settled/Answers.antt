use Rattle.router_state.proofs.Ruling.{facts_are}
use Rattle.router_state.proofs.laws.facts_are_settled.Goals as goal

pub returns : goal.returns
returns c = facts_are
