use Rattle.settle_passes.proofs.AskedExample.{a_receiver_asks}
use Rattle.settle_passes.proofs.rows.a_receiver_asks.Goals as goal

pub returns : goal.returns
returns c = a_receiver_asks
