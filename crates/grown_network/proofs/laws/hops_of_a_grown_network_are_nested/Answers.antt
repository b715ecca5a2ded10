use Rattle.grown_network.proofs.Nested.{grown_nested}
use Rattle.grown_network.proofs.laws.hops_of_a_grown_network_are_nested.Goals as goal

pub returns : goal.returns
returns c = grown_nested
