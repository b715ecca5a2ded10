use Rattle.script_theorem.proofs.Safety.{first_lines_heal_themselves}
use Rattle.script_theorem.proofs.theorem.first_lines_heal_themselves.Goals as goal

pub returns : goal.returns
returns c = first_lines_heal_themselves
