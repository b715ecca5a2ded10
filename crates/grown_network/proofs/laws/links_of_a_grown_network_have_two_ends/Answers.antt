use Rattle.grown_network.proofs.Wired.{grown_wired}
use Rattle.grown_network.proofs.laws.links_of_a_grown_network_have_two_ends.Goals as goal

pub returns : goal.returns
returns c = grown_wired
