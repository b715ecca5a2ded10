use Rattle.settle_network.proofs.Settled.{a_network_settles}
use Rattle.settle_network.proofs.laws.a_network_settles.Goals as goal

pub returns : goal.returns
returns c q w rs calm start = a_network_settles q w rs calm start
