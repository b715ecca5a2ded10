use Rattle.network_examples.proofs.Tight.{two_rounds_are_too_few}
use Rattle.network_examples.proofs.laws.two_rounds_are_too_few.Goals as goal

pub returns : goal.returns
returns c = two_rounds_are_too_few
