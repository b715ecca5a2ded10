use Rattle.laws_network.proofs.Hosts.{each_world_of_a_run_keeps_the_locals}
use Rattle.laws_network.proofs.laws.each_world_of_a_run_keeps_the_locals.Goals as goal

pub returns : goal.returns
returns c p fit few = each_world_of_a_run_keeps_the_locals p fit few
