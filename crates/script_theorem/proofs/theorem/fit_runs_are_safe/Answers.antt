use Rattle.script_theorem.proofs.Safety.{fit_runs_are_safe}
use Rattle.script_theorem.proofs.theorem.fit_runs_are_safe.Goals as goal

pub returns : goal.returns
returns c = fit_runs_are_safe
