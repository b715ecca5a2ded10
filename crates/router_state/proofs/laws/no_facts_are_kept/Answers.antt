use Rattle.router_state.proofs.Opening.{no_facts_are_kept}
use Rattle.router_state.proofs.laws.no_facts_are_kept.Goals as goal

pub returns : goal.returns
returns c = no_facts_are_kept
