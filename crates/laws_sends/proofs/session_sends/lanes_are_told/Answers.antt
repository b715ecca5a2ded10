use Rattle.laws_sends.proofs.Telling.{lanes_are_told}
use Rattle.laws_sends.proofs.session_sends.lanes_are_told.Goals as goal

pub returns : goal.returns
returns c = lanes_are_told
