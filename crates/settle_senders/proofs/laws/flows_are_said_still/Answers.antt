use Rattle.settle_senders.proofs.laws.flows_are_said_still.Goals as goal
use Rattle.settle_senders.proofs.FlowsThere.{flows_are_said_still}

pub returns : goal.returns
returns c q n w said = flows_are_said_still q n w said
