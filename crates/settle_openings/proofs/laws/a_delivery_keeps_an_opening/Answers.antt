use Rattle.settle_openings.proofs.Delivering.{a_delivery_keeps_an_opening}
use Rattle.settle_openings.proofs.laws.a_delivery_keeps_an_opening.Goals as goal

pub returns : goal.returns
returns c q w o = a_delivery_keeps_an_opening q w o
