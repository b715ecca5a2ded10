use Rattle.settle_senders.proofs.Worked.{a_mark_is_answered}
use Rattle.settle_senders.proofs.rows.a_mark_is_answered.Goals as goal

pub returns : goal.returns
returns c = a_mark_is_answered
