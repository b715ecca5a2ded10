use Rattle.laws_sends.proofs.Marks.{marks_of_one_session}
use Rattle.laws_sends.proofs.session_sends.marks_of_one_session.Goals as goal

pub returns : goal.returns
returns c = marks_of_one_session
