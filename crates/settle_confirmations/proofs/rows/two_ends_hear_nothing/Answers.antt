use Rattle.settle_confirmations.proofs.Worked.{two_ends_hear_nothing}
use Rattle.settle_confirmations.proofs.rows.two_ends_hear_nothing.Goals as goal

pub returns : goal.returns
returns c = two_ends_hear_nothing
