use Rattle.router_rounds.proofs.Dying.{all_dying_are_there}
use Rattle.router_rounds.proofs.laws.all_dying_are_there.Goals as goal

pub returns : goal.returns
returns c = all_dying_are_there
