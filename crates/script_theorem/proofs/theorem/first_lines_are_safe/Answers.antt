use Rattle.script_theorem.proofs.Safety.{first_lines_are_safe}
use Rattle.script_theorem.proofs.theorem.first_lines_are_safe.Goals as goal

pub returns : goal.returns
returns c = first_lines_are_safe
