use Rattle.laws_sends.proofs.Saying.{all_said}
use Rattle.laws_sends.proofs.session_sends.all_is_said.Goals as goal

pub returns : goal.returns
returns c = all_said
