use Rattle.settle_releases.proofs.Worked.{something_is_in_flight}
use Rattle.settle_releases.proofs.rows.something_is_in_flight.Goals as goal

pub returns : goal.returns
returns c = something_is_in_flight
