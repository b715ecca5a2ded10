use Rattle.settle_refreshes.proofs.Settled.{nothing_else}
use Rattle.settle_refreshes.proofs.laws.what_is_left_in_flight.Goals as goal

pub returns : goal.returns
returns c q w rs calm start = nothing_else q w rs calm start
