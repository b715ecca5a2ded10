use Rattle.settle_releases.proofs.Worked.{a_receiver_asks_for_less}
use Rattle.settle_releases.proofs.rows.a_receiver_asks_for_less.Goals as goal

pub returns : goal.returns
returns c = a_receiver_asks_for_less
