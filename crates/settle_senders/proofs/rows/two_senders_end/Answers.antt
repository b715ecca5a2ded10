use Rattle.settle_senders.proofs.Worked.{two_senders_end}
use Rattle.settle_senders.proofs.rows.two_senders_end.Goals as goal

pub returns : goal.returns
returns c = two_senders_end
