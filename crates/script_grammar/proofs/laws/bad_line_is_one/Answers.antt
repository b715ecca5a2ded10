use Rattle.script_grammar.proofs.Scripts.{one_bad_line_law}
use Rattle.script_grammar.proofs.laws.bad_line_is_one.Goals as goal

pub returns : goal.returns
returns c = one_bad_line_law
