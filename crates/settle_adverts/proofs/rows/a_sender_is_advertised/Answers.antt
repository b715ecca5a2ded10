use Rattle.settle_adverts.proofs.Worked.{a_sender_is_advertised}
use Rattle.settle_adverts.proofs.rows.a_sender_is_advertised.Goals as goal

pub returns : goal.returns
returns c = a_sender_is_advertised
