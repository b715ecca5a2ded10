use Rattle.settle_openings.proofs.Halves.{rounds_keep_an_opening}
use Rattle.settle_openings.proofs.laws.rounds_keep_an_opening.Goals as goal

pub returns : goal.returns
returns c q n w o = rounds_keep_an_opening q n w o
