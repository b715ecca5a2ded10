use Rattle.laws_network.proofs.HowManySend.{how_many_send}
use Rattle.laws_network.proofs.laws.how_many_may_send.Goals as goal

pub returns : goal.returns
returns c = how_many_send
