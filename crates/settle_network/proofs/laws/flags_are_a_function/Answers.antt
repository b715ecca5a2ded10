use Rattle.settle_network.proofs.Flags.{flags_are_a_function}
use Rattle.settle_network.proofs.laws.flags_are_a_function.Goals as goal

pub returns : goal.returns
returns c = flags_are_a_function
