use Rattle.network_examples.proofs.Said.{a_path_says_its_hop}
use Rattle.network_examples.proofs.laws.a_path_says_its_hop.Goals as goal

pub returns : goal.returns
returns c = a_path_says_its_hop
