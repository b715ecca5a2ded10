use Rattle.settle_senders.proofs.Worked.{what_is_left_over_stays}
use Rattle.settle_senders.proofs.rows.what_is_left_over_stays.Goals as goal

pub returns : goal.returns
returns c = what_is_left_over_stays
