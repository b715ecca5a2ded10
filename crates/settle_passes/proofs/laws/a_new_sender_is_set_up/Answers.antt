use Rattle.settle_passes.proofs.Calls.{a_new_sender_is_set_up}
use Rattle.settle_passes.proofs.laws.a_new_sender_is_set_up.Goals as goal

pub returns : goal.returns
returns c q n k t w start fit new hosts = a_new_sender_is_set_up q n k t w start fit new hosts
