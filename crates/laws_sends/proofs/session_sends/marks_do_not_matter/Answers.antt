use Rattle.laws_sends.proofs.Marks.{marks_do_not_matter}
use Rattle.laws_sends.proofs.session_sends.marks_do_not_matter.Goals as goal

pub returns : goal.returns
returns c = marks_do_not_matter
