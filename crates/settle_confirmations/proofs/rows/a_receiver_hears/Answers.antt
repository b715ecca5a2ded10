use Rattle.settle_confirmations.proofs.Worked.{a_receiver_hears}
use Rattle.settle_confirmations.proofs.rows.a_receiver_hears.Goals as goal

pub returns : goal.returns
returns c = a_receiver_hears
