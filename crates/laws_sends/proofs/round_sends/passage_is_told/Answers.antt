use Rattle.laws_sends.proofs.Laned.{passage_is_told}
use Rattle.laws_sends.proofs.round_sends.passage_is_told.Goals as goal

pub returns : goal.returns
returns c = passage_is_told
