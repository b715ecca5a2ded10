use Rattle.settle_passes.proofs.Worked.{a_receiver_is_served}
use Rattle.settle_passes.proofs.rows.a_receiver_is_served.Goals as goal

pub returns : goal.returns
returns c = a_receiver_is_served
