use Rattle.settle_senders.proofs.Worked.{a_tear_is_in_flight}
use Rattle.settle_senders.proofs.rows.a_tear_is_in_flight.Goals as goal

pub returns : goal.returns
returns c = a_tear_is_in_flight
