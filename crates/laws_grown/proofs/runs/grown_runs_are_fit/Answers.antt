use Rattle.laws_grown.proofs.Fit.{grown_runs_are_fit}
use Rattle.laws_grown.proofs.runs.grown_runs_are_fit.Goals as goal

pub returns : goal.returns
returns c = grown_runs_are_fit
