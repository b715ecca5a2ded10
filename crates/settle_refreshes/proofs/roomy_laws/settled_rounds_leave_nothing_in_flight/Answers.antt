use Rattle.settle_refreshes.proofs.Rounds.{rounds_leave_nothing}
use Rattle.settle_refreshes.proofs.roomy_laws.settled_rounds_leave_nothing_in_flight.Goals as goal

pub returns : goal.returns
returns c q n w rs calm start enough only = rounds_leave_nothing q n w rs calm start enough only
