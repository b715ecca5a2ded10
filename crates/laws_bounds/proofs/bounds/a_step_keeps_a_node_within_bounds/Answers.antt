use Rattle.laws_bounds.proofs.Bounded.{a_step_keeps_a_node_within_bounds}
use Rattle.laws_bounds.proofs.bounds.a_step_keeps_a_node_within_bounds.Goals as goal

pub returns : goal.returns
returns c = a_step_keeps_a_node_within_bounds
