use Rattle.laws_scripts.proofs.EventLines.{first_lines_are_a_fit_run}
use Rattle.laws_scripts.proofs.laws.first_lines_are_a_fit_run.Goals as goal

pub returns : goal.returns
returns c = first_lines_are_a_fit_run
