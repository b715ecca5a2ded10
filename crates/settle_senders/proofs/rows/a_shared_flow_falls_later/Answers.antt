use Rattle.settle_senders.proofs.Worked.{a_shared_flow_falls_later}
use Rattle.settle_senders.proofs.rows.a_shared_flow_falls_later.Goals as goal

pub returns : goal.returns
returns c = a_shared_flow_falls_later
