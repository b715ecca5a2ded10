use Rattle.settle_refreshes.proofs.Settled.{only_refreshes}
use Rattle.settle_refreshes.proofs.laws.only_refreshes_are_in_flight.Goals as goal

pub returns : goal.returns
returns c q w rs calm start none = only_refreshes q w rs calm start none
