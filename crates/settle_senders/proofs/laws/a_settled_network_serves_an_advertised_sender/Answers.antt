use Rattle.settle_senders.proofs.AdvertFollowing.{a_settled_network_serves_an_advertised_sender}
use Rattle.settle_senders.proofs.laws.a_settled_network_serves_an_advertised_sender.Goals as goal

pub returns : goal.returns
returns c q n k t w there settled quiet fit new hosts fits = a_settled_network_serves_an_advertised_sender q n k t w there settled quiet fit new hosts fits
