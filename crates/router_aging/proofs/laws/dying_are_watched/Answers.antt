use Rattle.router_aging.proofs.Watching.{dying_are_watched}
use Rattle.router_aging.proofs.laws.dying_are_watched.Goals as goal

pub returns : goal.returns
returns c = dying_are_watched
