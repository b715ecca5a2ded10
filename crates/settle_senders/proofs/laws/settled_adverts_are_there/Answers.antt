use Rattle.settle_senders.proofs.AdvertsThere.{settled_adverts_are_there}
use Rattle.settle_senders.proofs.laws.settled_adverts_are_there.Goals as goal

pub returns : goal.returns
returns c q w hosts settled flight = settled_adverts_are_there q w hosts settled flight
