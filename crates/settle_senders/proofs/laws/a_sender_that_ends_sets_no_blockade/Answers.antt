use Rattle.settle_senders.proofs.Visiting.{a_sender_that_ends_sets_no_blockade}
use Rattle.settle_senders.proofs.laws.a_sender_that_ends_sets_no_blockade.Goals as goal

pub returns : goal.returns
returns c q n i d w begins settled quiet sends = a_sender_that_ends_sets_no_blockade q n d w begins settled quiet sends i
