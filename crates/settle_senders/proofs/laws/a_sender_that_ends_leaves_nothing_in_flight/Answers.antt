use Rattle.settle_senders.proofs.Emptying.{a_sender_that_ends_leaves_nothing_in_flight}
use Rattle.settle_senders.proofs.laws.a_sender_that_ends_leaves_nothing_in_flight.Goals as goal

pub returns : goal.returns
returns c q n i d w begins settled quiet unmarked sends = a_sender_that_ends_leaves_nothing_in_flight q n d w begins settled quiet sends unmarked i
