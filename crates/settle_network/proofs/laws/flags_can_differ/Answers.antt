use Rattle.settle_network.proofs.FlagsExample.{flags_can_differ}
use Rattle.settle_network.proofs.laws.flags_can_differ.Goals as goal

pub returns : goal.returns
returns c = flags_can_differ
