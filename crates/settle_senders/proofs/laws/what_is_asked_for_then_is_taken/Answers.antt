use Rattle.settle_senders.proofs.Visiting.{what_is_asked_for_then_is_taken}
use Rattle.settle_senders.proofs.laws.what_is_asked_for_then_is_taken.Goals as goal

pub returns : goal.returns
returns c q n i d w begins settled quiet sends = what_is_asked_for_then_is_taken q n d w begins settled quiet sends i
