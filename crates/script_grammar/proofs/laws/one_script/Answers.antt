use Rattle.script_grammar.proofs.Scripts.{one_script_law}
use Rattle.script_grammar.proofs.laws.one_script.Goals as goal

pub returns : goal.returns
returns c = one_script_law
