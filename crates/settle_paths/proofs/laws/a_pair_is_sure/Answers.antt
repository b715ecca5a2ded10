use Rattle.settle_paths.proofs.Sure.{a_pair_is_sure}
use Rattle.settle_paths.proofs.laws.a_pair_is_sure.Goals as goal

pub returns : goal.returns
returns c = a_pair_is_sure
