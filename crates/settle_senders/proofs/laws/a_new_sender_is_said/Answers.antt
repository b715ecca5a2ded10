use Rattle.settle_senders.proofs.AdvertCalls.{a_new_sender_is_said}
use Rattle.settle_senders.proofs.laws.a_new_sender_is_said.Goals as goal

pub returns : goal.returns
returns c q n k t w said fit new hosts = a_new_sender_is_said q n k t w said fit new hosts
