use Rattle.settle_adverts.proofs.Ways.{a_way_goes_hop_by_hop}
use Rattle.settle_adverts.proofs.laws.a_way_goes_hop_by_hop.Goals as goal

pub returns : goal.returns
returns c = a_way_goes_hop_by_hop
