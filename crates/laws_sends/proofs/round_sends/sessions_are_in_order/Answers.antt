use Rattle.laws_sends.proofs.Ordered.{in_order}
use Rattle.laws_sends.proofs.round_sends.sessions_are_in_order.Goals as goal

pub returns : goal.returns
returns c = in_order
