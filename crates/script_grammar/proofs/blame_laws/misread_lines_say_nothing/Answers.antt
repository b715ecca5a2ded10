use Rattle.script_grammar.proofs.Misread.{misread_says_nothing}
use Rattle.script_grammar.proofs.blame_laws.misread_lines_say_nothing.Goals as goal

pub returns : goal.returns
returns c = misread_says_nothing
