use Rattle.laws_sends.proofs.Laned.{lanes_are_said}
use Rattle.laws_sends.proofs.round_sends.lanes_are_said.Goals as goal

pub returns : goal.returns
returns c = lanes_are_said
