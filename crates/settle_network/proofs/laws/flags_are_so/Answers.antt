use Rattle.settle_network.proofs.FlagsExample.{flags_are_so}
use Rattle.settle_network.proofs.laws.flags_are_so.Goals as goal

pub returns : goal.returns
returns c = flags_are_so
