use Rattle.laws_network.proofs.Example.{a_pair_stays_within_bounds}
use Rattle.laws_network.proofs.laws.a_pair_stays_within_bounds.Goals as goal

pub returns : goal.returns
returns c = a_pair_stays_within_bounds
