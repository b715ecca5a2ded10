use Rattle.settle_senders.proofs.FlowCalls.{a_new_flow_is_said}
use Rattle.settle_senders.proofs.laws.a_new_flow_is_said.Goals as goal

pub returns : goal.returns
returns c q n k t w start fit sends = a_new_flow_is_said q n k t w start fit sends
