use Rattle.laws_network.proofs.Runs.{each_world_of_a_run_is_within_bounds}
use Rattle.laws_network.proofs.laws.each_world_of_a_run_is_within_bounds.Goals as goal

pub returns : goal.returns
returns c p fit = each_world_of_a_run_is_within_bounds p fit
