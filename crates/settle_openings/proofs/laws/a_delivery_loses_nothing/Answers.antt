use Rattle.settle_openings.proofs.Halves.{a_delivery_loses_nothing}
use Rattle.settle_openings.proofs.laws.a_delivery_loses_nothing.Goals as goal

pub returns : goal.returns
returns c q w o = a_delivery_loses_nothing q w o
