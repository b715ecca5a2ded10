use Rattle.settle_network.proofs.Flags.{flags_settle}
use Rattle.settle_network.proofs.laws.flags_settle.Goals as goal

pub returns : goal.returns
returns c = flags_settle
