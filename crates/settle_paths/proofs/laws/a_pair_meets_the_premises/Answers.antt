use Rattle.settle_paths.proofs.Example.{a_pair_meets_the_premises}
use Rattle.settle_paths.proofs.laws.a_pair_meets_the_premises.Goals as goal

pub returns : goal.returns
returns c = a_pair_meets_the_premises
