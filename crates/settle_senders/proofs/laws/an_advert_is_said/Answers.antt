use Rattle.settle_senders.proofs.AdvertCalls.{an_advert_is_said}
use Rattle.settle_senders.proofs.laws.an_advert_is_said.Goals as goal

pub returns : goal.returns
returns c q n l w said fit spares = an_advert_is_said q n l w said fit spares
