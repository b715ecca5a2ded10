use Rattle.settle_openings.proofs.Halves.{rounds_lose_nothing}
use Rattle.settle_openings.proofs.laws.rounds_lose_nothing.Goals as goal

pub returns : goal.returns
returns c q n w o = rounds_lose_nothing q n w o
