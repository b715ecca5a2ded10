use Rattle.settle_network.proofs.Example.{it_has_not_settled_yet}
use Rattle.settle_network.proofs.laws.it_has_not_settled_yet.Goals as goal

pub returns : goal.returns
returns c = it_has_not_settled_yet
