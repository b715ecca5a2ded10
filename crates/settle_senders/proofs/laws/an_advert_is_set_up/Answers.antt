use Rattle.settle_senders.proofs.AdvertCalls.{an_advert_is_set_up}
use Rattle.settle_senders.proofs.laws.an_advert_is_set_up.Goals as goal

pub returns : goal.returns
returns c q n k w there = an_advert_is_set_up q n k w there
