use Rattle.settle_senders.proofs.AdvertsTaken.{an_advert_is_taken}
use Rattle.settle_senders.proofs.laws.an_advert_is_taken.Goals as goal

pub returns : goal.returns
returns c q n m k w start sends = an_advert_is_taken q n m k w start sends
