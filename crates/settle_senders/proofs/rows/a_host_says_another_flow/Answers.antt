use Rattle.settle_senders.proofs.FlowsWorked.{a_host_says_another_flow}
use Rattle.settle_senders.proofs.rows.a_host_says_another_flow.Goals as goal

pub returns : goal.returns
returns c = a_host_says_another_flow
