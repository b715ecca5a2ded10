use Rattle.settle_network.proofs.Settled.{nothing_is_refused}
use Rattle.settle_network.proofs.laws.nothing_is_refused.Goals as goal

pub returns : goal.returns
returns c q w rs calm start = nothing_is_refused q w rs calm start
