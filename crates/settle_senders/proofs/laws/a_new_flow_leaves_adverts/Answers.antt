use Rattle.settle_senders.proofs.laws.a_new_flow_leaves_adverts.Goals as goal
use Rattle.settle_senders.proofs.FlowCalls.{a_new_flow_leaves_adverts}

pub returns : goal.returns
returns c q n k t w start fit sends = a_new_flow_leaves_adverts q n k t w start fit sends
