use Rattle.settle_senders.proofs.Silence.{a_sender_leaves_nothing_in_flight}
use Rattle.settle_senders.proofs.laws.a_sender_leaves_nothing_in_flight.Goals as goal

pub returns : goal.returns
returns c q n k t w bounds locals settled quiet unmarked fit new hosts fits = a_sender_leaves_nothing_in_flight q n k t w bounds locals settled quiet unmarked fit new hosts fits
