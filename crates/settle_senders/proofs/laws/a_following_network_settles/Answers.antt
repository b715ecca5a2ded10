use Rattle.settle_senders.proofs.Serving.{a_following_network_settles}
use Rattle.settle_senders.proofs.laws.a_following_network_settles.Goals as goal

pub returns : goal.returns
returns c q w follows = a_following_network_settles q w follows
