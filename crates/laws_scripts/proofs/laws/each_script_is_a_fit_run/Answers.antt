use Rattle.laws_scripts.proofs.EventLines.{each_script_is_a_fit_run}
use Rattle.laws_scripts.proofs.laws.each_script_is_a_fit_run.Goals as goal

pub returns : goal.returns
returns c = each_script_is_a_fit_run
