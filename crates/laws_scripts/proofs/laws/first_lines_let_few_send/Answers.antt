use Rattle.laws_scripts.proofs.SenderLines.{first_lines_let_few_send}
use Rattle.laws_scripts.proofs.laws.first_lines_let_few_send.Goals as goal

pub returns : goal.returns
returns c = first_lines_let_few_send
