use Rattle.settle_resvs.proofs.HopExample.{a_pair_says_a_reservation}
use Rattle.settle_resvs.proofs.hops.a_pair_says_a_reservation.Goals as goal

pub returns : goal.returns
returns c = a_pair_says_a_reservation
