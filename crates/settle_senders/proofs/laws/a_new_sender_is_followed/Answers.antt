use Rattle.settle_senders.proofs.Serving.{a_new_sender_is_followed}
use Rattle.settle_senders.proofs.laws.a_new_sender_is_followed.Goals as goal

pub returns : goal.returns
returns c q n s k t w follows fit new hosts fits = a_new_sender_is_followed q n s k t w follows fit new hosts fits
