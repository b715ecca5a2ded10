use Rattle.settle_senders.proofs.Worked.{a_sender_ends}
use Rattle.settle_senders.proofs.rows.a_sender_ends.Goals as goal

pub returns : goal.returns
returns c = a_sender_ends
