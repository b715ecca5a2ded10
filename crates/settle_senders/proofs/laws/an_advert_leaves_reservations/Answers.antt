use Rattle.settle_senders.proofs.AdvertCalls.{an_advert_leaves_reservations}
use Rattle.settle_senders.proofs.laws.an_advert_leaves_reservations.Goals as goal

pub returns : goal.returns
returns c q n m k w start settled quiet = an_advert_leaves_reservations q n m k w start settled quiet
