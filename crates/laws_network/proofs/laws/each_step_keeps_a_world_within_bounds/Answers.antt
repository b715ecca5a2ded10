use Rattle.laws_network.proofs.Keeping.{each_step_keeps_a_world_within_bounds}
use Rattle.laws_network.proofs.laws.each_step_keeps_a_world_within_bounds.Goals as goal

pub returns : goal.returns
returns c q w s fit bounds = each_step_keeps_a_world_within_bounds q w s fit bounds
