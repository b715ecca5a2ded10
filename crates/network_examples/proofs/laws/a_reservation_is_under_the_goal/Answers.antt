use Rattle.network_examples.proofs.Goals.{a_reservation_is_under_the_goal}
use Rattle.network_examples.proofs.laws.a_reservation_is_under_the_goal.Goals as goal

pub returns : goal.returns
returns c = a_reservation_is_under_the_goal
