use Rattle.settle_releases.proofs.Worked.{a_receiver_quits}
use Rattle.settle_releases.proofs.rows.a_receiver_quits.Goals as goal

pub returns : goal.returns
returns c = a_receiver_quits
