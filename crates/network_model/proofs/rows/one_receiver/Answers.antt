use Rattle.network_model.proofs.Worked.{one_receiver}
use Rattle.network_model.proofs.rows.one_receiver.Goals as goal

pub returns : goal.returns
returns c = one_receiver
