use Rattle.settle_passes.proofs.Spreading.{paths_spread_one_hop_a_pass}
use Rattle.settle_passes.proofs.laws.paths_spread_one_hop_a_pass.Goals as goal

pub returns : goal.returns
returns c q n w s = paths_spread_one_hop_a_pass q n w s
