use Rattle.message_show.proofs.Shown.{one_bad_line_law}
use Rattle.message_show.proofs.laws.one_bad_line.Goals as goal

pub returns : goal.returns
returns c = one_bad_line_law
