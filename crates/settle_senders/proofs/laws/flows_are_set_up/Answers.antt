use Rattle.settle_senders.proofs.FlowsThere.{flows_are_set_up}
use Rattle.settle_senders.proofs.laws.flows_are_set_up.Goals as goal

pub returns : goal.returns
returns c q w said = flows_are_set_up q w said
