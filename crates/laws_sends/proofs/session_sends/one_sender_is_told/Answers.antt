use Rattle.laws_sends.proofs.Changing.{one_sender_is_told}
use Rattle.laws_sends.proofs.session_sends.one_sender_is_told.Goals as goal

pub returns : goal.returns
returns c = one_sender_is_told
