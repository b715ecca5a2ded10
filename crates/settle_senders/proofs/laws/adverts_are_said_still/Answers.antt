use Rattle.settle_senders.proofs.laws.adverts_are_said_still.Goals as goal
use Rattle.settle_senders.proofs.AdvertsThere.{adverts_are_said_still}

pub returns : goal.returns
returns c q n w said = adverts_are_said_still q n w said
