use Rattle.settle_confirmations.proofs.Worked.{a_receiver_has_it_already}
use Rattle.settle_confirmations.proofs.rows.a_receiver_has_it_already.Goals as goal

pub returns : goal.returns
returns c = a_receiver_has_it_already
