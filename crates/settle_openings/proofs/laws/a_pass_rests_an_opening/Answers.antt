use Rattle.settle_openings.proofs.Halves.{a_pass_rests_an_opening}
use Rattle.settle_openings.proofs.laws.a_pass_rests_an_opening.Goals as goal

pub returns : goal.returns
returns c q w o = a_pass_rests_an_opening q w o
