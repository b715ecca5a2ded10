use Rattle.settle_senders.proofs.Serving.{receivers_that_wait_are_served}
use Rattle.settle_senders.proofs.laws.receivers_that_wait_are_served.Goals as goal

pub returns : goal.returns
returns c q s w follows = receivers_that_wait_are_served q s w follows
