use Rattle.settle_network.proofs.DemandedFlags.{settled_flags_are_demanded}
use Rattle.settle_network.proofs.laws.settled_flags_are_demanded.Goals as goal

pub returns : goal.returns
returns c = settled_flags_are_demanded
