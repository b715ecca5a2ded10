use Rattle.laws_network.proofs.Hops.{the_hop_of_what_is_sent}
use Rattle.laws_network.proofs.laws.the_hop_of_what_is_sent.Goals as goal

pub returns : goal.returns
returns c q s w y mark m a i spelt hop = the_hop_of_what_is_sent q s w y mark m a i spelt hop
