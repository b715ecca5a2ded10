use Rattle.network_examples.proofs.Previous.{a_path_comes_over_a_hop}
use Rattle.network_examples.proofs.laws.a_path_comes_over_a_hop.Goals as goal

pub returns : goal.returns
returns c = a_path_comes_over_a_hop
