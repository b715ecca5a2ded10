use Rattle.settle_resvs.proofs.LeftOverExample.{nothing_is_reserved_yet}
use Rattle.settle_resvs.proofs.soundness.nothing_is_reserved_yet.Goals as goal

pub returns : goal.returns
returns c = nothing_is_reserved_yet
