use Rattle.message_show.proofs.Shown.{bad_is_not_right_law}
use Rattle.message_show.proofs.laws.bad_is_not_right.Goals as goal

pub returns : goal.returns
returns c = bad_is_not_right_law
