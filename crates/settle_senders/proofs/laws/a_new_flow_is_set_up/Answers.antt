use Rattle.settle_senders.proofs.FlowCalls.{a_new_flow_is_set_up}
use Rattle.settle_senders.proofs.laws.a_new_flow_is_set_up.Goals as goal

pub returns : goal.returns
returns c q n k t w start fit sends = a_new_flow_is_set_up q n k t w start fit sends
