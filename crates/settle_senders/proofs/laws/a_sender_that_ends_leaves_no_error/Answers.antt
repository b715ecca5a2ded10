use Rattle.settle_senders.proofs.Visiting.{no_error_comes}
use Rattle.settle_senders.proofs.laws.a_sender_that_ends_leaves_no_error.Goals as goal

pub returns : goal.returns
returns c q n i d w begins settled quiet sends = no_error_comes q n d w begins settled quiet sends i
