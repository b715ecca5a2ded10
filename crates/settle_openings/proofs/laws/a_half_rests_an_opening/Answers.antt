use Rattle.settle_openings.proofs.Halves.{a_half_rests_an_opening}
use Rattle.settle_openings.proofs.laws.a_half_rests_an_opening.Goals as goal

pub returns : goal.returns
returns c q w o = a_half_rests_an_opening q w o
