use Rattle.laws_sends.proofs.Changing.{one_session_is_told}
use Rattle.laws_sends.proofs.session_sends.one_session_is_told.Goals as goal

pub returns : goal.returns
returns c = one_session_is_told
