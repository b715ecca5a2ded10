use Rattle.network_examples.proofs.Goals.{a_goal_has_interfaces}
use Rattle.network_examples.proofs.laws.a_goal_has_interfaces.Goals as goal

pub returns : goal.returns
returns c = a_goal_has_interfaces
