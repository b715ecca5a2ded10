use Rattle.settle_senders.proofs.FlowsWorked.{no_pass_is_spared_a_flow}
use Rattle.settle_senders.proofs.rows.no_pass_is_spared_a_flow.Goals as goal

pub returns : goal.returns
returns c = no_pass_is_spared_a_flow
