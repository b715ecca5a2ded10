use Rattle.laws_texts.proofs.Told.{heads_are_read}
use Rattle.laws_texts.proofs.laws.heads_are_read.Goals as goal

pub returns : goal.returns
returns c = heads_are_read
