use Rattle.settle_network.proofs.Purged.{nothing_stale_is_left}
use Rattle.settle_network.proofs.laws.nothing_stale_is_left.Goals as goal

pub returns : goal.returns
returns c q w rs calm start = nothing_stale_is_left q w rs calm start
