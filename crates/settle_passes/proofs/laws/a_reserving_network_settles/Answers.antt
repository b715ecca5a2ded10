use Rattle.settle_passes.proofs.Serving.{a_reserving_network_settles}
use Rattle.settle_passes.proofs.laws.a_reserving_network_settles.Goals as goal

pub returns : goal.returns
returns c q w r = a_reserving_network_settles q w r
