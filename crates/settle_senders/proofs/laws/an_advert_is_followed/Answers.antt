use Rattle.settle_senders.proofs.AdvertFollowing.{an_advert_is_followed}
use Rattle.settle_senders.proofs.laws.an_advert_is_followed.Goals as goal

pub returns : goal.returns
returns c q n s k w follows = an_advert_is_followed q n s k w follows
