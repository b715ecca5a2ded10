use Rattle.settle_refreshes.proofs.Worked.{an_error_is_in_flight}
use Rattle.settle_refreshes.proofs.rows.an_error_is_in_flight.Goals as goal

pub returns : goal.returns
returns c = an_error_is_in_flight
