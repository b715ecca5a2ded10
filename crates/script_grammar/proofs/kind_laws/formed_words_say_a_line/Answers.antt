use Rattle.script_grammar.proofs.FormLaws.{said_by_formed}
use Rattle.script_grammar.proofs.kind_laws.formed_words_say_a_line.Goals as goal

pub returns : goal.returns
returns c = said_by_formed
