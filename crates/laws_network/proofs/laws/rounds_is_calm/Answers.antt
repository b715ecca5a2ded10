use Rattle.laws_network.proofs.Calming.{rounds_is_calm}
use Rattle.laws_network.proofs.laws.rounds_is_calm.Goals as goal

pub returns : goal.returns
returns c q n w = rounds_is_calm q n w
