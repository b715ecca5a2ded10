use Rattle.network_examples.proofs.TightPaths.{eight_rounds_are_too_few}
use Rattle.network_examples.proofs.laws.eight_rounds_are_too_few.Goals as goal

pub returns : goal.returns
returns c = eight_rounds_are_too_few
