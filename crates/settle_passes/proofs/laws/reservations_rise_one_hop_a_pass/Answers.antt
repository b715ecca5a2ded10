use Rattle.settle_passes.proofs.Rising.{reservations_rise_one_hop_a_pass}
use Rattle.settle_passes.proofs.laws.reservations_rise_one_hop_a_pass.Goals as goal

pub returns : goal.returns
returns c q n s w r = reservations_rise_one_hop_a_pass q s n w r
