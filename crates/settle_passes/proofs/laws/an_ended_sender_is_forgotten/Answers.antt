use Rattle.settle_passes.proofs.Dropping.{an_ended_sender_is_forgotten}
use Rattle.settle_passes.proofs.laws.an_ended_sender_is_forgotten.Goals as goal

pub returns : goal.returns
returns c q n d w start sends quiet hosts = an_ended_sender_is_forgotten q n d w start sends quiet hosts
