use Rattle.settle_senders.proofs.AdvertCalls.{a_new_sender_is_advertised}
use Rattle.settle_senders.proofs.laws.a_new_sender_is_advertised.Goals as goal

pub returns : goal.returns
returns c q n k t w there fit new hosts = a_new_sender_is_advertised q n k t w there fit new hosts
