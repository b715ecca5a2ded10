use Rattle.settle_senders.proofs.FlowsWorked.{a_stray_flow_is_taken}
use Rattle.settle_senders.proofs.rows.a_stray_flow_is_taken.Goals as goal

pub returns : goal.returns
returns c = a_stray_flow_is_taken
