use Rattle.settle_loss.proofs.Example.{a_lossy_pair}
use Rattle.settle_loss.proofs.laws.a_pair_is_lossy.Goals as goal

pub returns : goal.returns
returns c = a_lossy_pair
