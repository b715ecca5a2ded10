use Rattle.script_grammar.proofs.Scripts.{script_or_bad}
use Rattle.script_grammar.proofs.laws.bad_is_no_script.Goals as goal

pub returns : goal.returns
returns c = script_or_bad
