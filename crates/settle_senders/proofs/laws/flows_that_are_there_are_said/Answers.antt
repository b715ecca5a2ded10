use Rattle.settle_senders.proofs.FlowsThere.{flows_that_are_there_are_said}
use Rattle.settle_senders.proofs.laws.flows_that_are_there_are_said.Goals as goal

pub returns : goal.returns
returns c q w said = flows_that_are_there_are_said q w said
