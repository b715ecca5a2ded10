use Rattle.laws_sends.proofs.Quiet.{nothing_sent}
use Rattle.laws_sends.proofs.session_sends.nothing_is_sent.Goals as goal

pub returns : goal.returns
returns c = nothing_sent
