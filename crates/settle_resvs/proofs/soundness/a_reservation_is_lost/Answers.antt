use Rattle.settle_resvs.proofs.LeftOverExample.{a_reservation_is_lost}
use Rattle.settle_resvs.proofs.soundness.a_reservation_is_lost.Goals as goal

pub returns : goal.returns
returns c = a_reservation_is_lost
