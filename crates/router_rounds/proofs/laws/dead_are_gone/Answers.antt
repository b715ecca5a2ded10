use Rattle.router_rounds.proofs.Dying.{dead_are_gone}
use Rattle.router_rounds.proofs.laws.dead_are_gone.Goals as goal

pub returns : goal.returns
returns c = dead_are_gone
