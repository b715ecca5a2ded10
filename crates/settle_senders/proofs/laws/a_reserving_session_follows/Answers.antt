use Rattle.settle_senders.proofs.Sending.{a_reserving_session_follows}
use Rattle.settle_senders.proofs.laws.a_reserving_session_follows.Goals as goal

pub returns : goal.returns
returns c q s w reserving = a_reserving_session_follows q s w reserving
