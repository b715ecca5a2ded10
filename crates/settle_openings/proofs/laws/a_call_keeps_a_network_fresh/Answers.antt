use Rattle.settle_openings.proofs.Beginning.{a_call_keeps_a_network_fresh}
use Rattle.settle_openings.proofs.laws.a_call_keeps_a_network_fresh.Goals as goal

pub returns : goal.returns
returns c q n l w r call = a_call_keeps_a_network_fresh q n l w r call
