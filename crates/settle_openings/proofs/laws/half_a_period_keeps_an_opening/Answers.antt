use Rattle.settle_openings.proofs.Halves.{half_a_period_keeps_an_opening}
use Rattle.settle_openings.proofs.laws.half_a_period_keeps_an_opening.Goals as goal

pub returns : goal.returns
returns c q w o = half_a_period_keeps_an_opening q w o
