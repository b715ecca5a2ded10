use Rattle.settle_passes.proofs.Rising.{reservations_are_set_up}
use Rattle.settle_passes.proofs.laws.reservations_are_set_up.Goals as goal

pub returns : goal.returns
returns c q s w r = reservations_are_set_up q s w r
