use Rattle.settle_senders.proofs.Worked.{a_receiver_waits}
use Rattle.settle_senders.proofs.rows.a_receiver_waits.Goals as goal

pub returns : goal.returns
returns c = a_receiver_waits
