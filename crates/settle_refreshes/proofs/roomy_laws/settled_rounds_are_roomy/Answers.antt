use Rattle.settle_refreshes.proofs.Rounds.{rounds_are_roomy}
use Rattle.settle_refreshes.proofs.roomy_laws.settled_rounds_are_roomy.Goals as goal

pub returns : goal.returns
returns c q n w rs calm start enough only = rounds_are_roomy q n w rs calm start enough only
