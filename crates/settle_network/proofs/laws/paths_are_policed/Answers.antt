use Rattle.settle_network.proofs.Police.{paths_are_policed}
use Rattle.settle_network.proofs.laws.paths_are_policed.Goals as goal

pub returns : goal.returns
returns c = paths_are_policed
