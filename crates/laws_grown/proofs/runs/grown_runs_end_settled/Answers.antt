use Rattle.laws_grown.proofs.Ending.{grown_runs_end_settled}
use Rattle.laws_grown.proofs.runs.grown_runs_end_settled.Goals as goal

pub returns : goal.returns
returns c = grown_runs_end_settled
