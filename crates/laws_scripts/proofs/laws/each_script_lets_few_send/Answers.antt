use Rattle.laws_scripts.proofs.SenderLines.{each_script_lets_few_send}
use Rattle.laws_scripts.proofs.laws.each_script_lets_few_send.Goals as goal

pub returns : goal.returns
returns c = each_script_lets_few_send
