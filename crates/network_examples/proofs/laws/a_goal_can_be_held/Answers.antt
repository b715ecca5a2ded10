use Rattle.network_examples.proofs.Goals.{a_goal_can_be_held}
use Rattle.network_examples.proofs.laws.a_goal_can_be_held.Goals as goal

pub returns : goal.returns
returns c = a_goal_can_be_held
