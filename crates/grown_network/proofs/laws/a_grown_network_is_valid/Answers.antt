use Rattle.grown_network.proofs.Valid.{valid_grown}
use Rattle.grown_network.proofs.laws.a_grown_network_is_valid.Goals as goal

pub returns : goal.returns
returns c = valid_grown
