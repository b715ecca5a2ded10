use Rattle.settle_senders.proofs.Visiting.{a_sender_that_ends_is_named_no_more}
use Rattle.settle_senders.proofs.laws.a_sender_that_ends_is_named_no_more.Goals as goal

pub returns : goal.returns
returns c q n i d w bounds locals settled quiet sends = a_sender_that_ends_is_named_no_more q n d w bounds locals settled quiet sends i
