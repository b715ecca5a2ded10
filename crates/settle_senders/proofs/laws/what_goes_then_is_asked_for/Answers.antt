use Rattle.settle_senders.proofs.Visiting.{what_goes_then_is_asked_for}
use Rattle.settle_senders.proofs.laws.what_goes_then_is_asked_for.Goals as goal

pub returns : goal.returns
returns c q n i s d w begins settled quiet sends = what_goes_then_is_asked_for q n d w begins settled quiet sends i s
