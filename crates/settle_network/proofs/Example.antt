-- It has not settled yet.
use Rattle.std.proofs.Common.{refl}
use Rattle.settle_resvs.proofs.LeftOverExample.{a_reservation_is_lost}
use Rattle.settle_network.specs.Example.{ItHasNotSettledYet}

pub it_has_not_settled_yet : ItHasNotSettledYet
it_has_not_settled_yet = record {
  start = a_reservation_is_lost.start;
  rounds = a_reservation_is_lost.rounds 26;
  enough = refl;
  not_yet = λ h. a_reservation_is_lost.not_yet h.resvs_sound;
}
