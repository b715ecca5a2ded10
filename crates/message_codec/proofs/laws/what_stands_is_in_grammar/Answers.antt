use Rattle.message_codec.proofs.Grammar.{what_stands_is_in_grammar}
use Rattle.message_codec.proofs.laws.what_stands_is_in_grammar.Goals as goal

pub returns : goal.returns
returns c = what_stands_is_in_grammar
