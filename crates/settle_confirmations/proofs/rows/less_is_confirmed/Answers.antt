use Rattle.settle_confirmations.proofs.Worked.{less_is_confirmed}
use Rattle.settle_confirmations.proofs.rows.less_is_confirmed.Goals as goal

pub returns : goal.returns
returns c = less_is_confirmed
