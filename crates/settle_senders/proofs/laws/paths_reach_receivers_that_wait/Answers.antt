use Rattle.settle_senders.proofs.Serving.{paths_reach_receivers_that_wait}
use Rattle.settle_senders.proofs.laws.paths_reach_receivers_that_wait.Goals as goal

pub returns : goal.returns
returns c q s w follows = paths_reach_receivers_that_wait q s w follows
