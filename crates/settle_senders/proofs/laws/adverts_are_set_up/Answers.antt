use Rattle.settle_senders.proofs.AdvertsThere.{adverts_are_set_up}
use Rattle.settle_senders.proofs.laws.adverts_are_set_up.Goals as goal

pub returns : goal.returns
returns c q w said = adverts_are_set_up q w said
