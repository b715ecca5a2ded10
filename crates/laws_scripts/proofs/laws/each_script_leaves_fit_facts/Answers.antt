use Rattle.laws_scripts.proofs.LeftOverLines.{each_script_leaves_fit_facts}
use Rattle.laws_scripts.proofs.laws.each_script_leaves_fit_facts.Goals as goal

pub returns : goal.returns
returns c = each_script_leaves_fit_facts
