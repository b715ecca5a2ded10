use Rattle.settle_refreshes.proofs.Settled.{ends_in_refreshes}
use Rattle.settle_refreshes.proofs.laws.rounds_end_in_refreshes.Goals as goal

pub returns : goal.returns
returns c q w rs calm start none enough = ends_in_refreshes q w rs calm start none enough
