use Rattle.settle_network.proofs.Settled.{a_settled_moment}
use Rattle.settle_network.proofs.laws.a_settled_moment.Goals as goal

pub returns : goal.returns
returns c q w ss is start = a_settled_moment q w ss is start
