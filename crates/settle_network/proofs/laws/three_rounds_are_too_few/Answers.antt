use Rattle.settle_network.proofs.Tight.{three_rounds_are_too_few}
use Rattle.settle_network.proofs.laws.three_rounds_are_too_few.Goals as goal

pub returns : goal.returns
returns c = three_rounds_are_too_few
