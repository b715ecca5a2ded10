use Rattle.router_aging.proofs.Names.{names_of_the_dead}
use Rattle.router_aging.proofs.laws.names_of_the_dead_are_lost.Goals as goal

pub returns : goal.returns
returns c = names_of_the_dead
