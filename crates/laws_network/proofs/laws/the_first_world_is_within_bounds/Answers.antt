use Rattle.laws_network.proofs.Beginning.{the_first_world_is_within_bounds}
use Rattle.laws_network.proofs.laws.the_first_world_is_within_bounds.Goals as goal

pub returns : goal.returns
returns c p fit = the_first_world_is_within_bounds p fit
