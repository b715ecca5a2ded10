use Rattle.laws_scripts.proofs.AskedLines.{what_lines_ask_can_be_asked}
use Rattle.laws_scripts.proofs.laws.what_lines_ask_can_be_asked.Goals as goal

pub returns : goal.returns
returns c = what_lines_ask_can_be_asked
