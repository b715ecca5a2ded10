use Rattle.message_codec.proofs.Grammar.{what_is_in_grammar_is_in_place}
use Rattle.message_codec.proofs.laws.what_is_in_grammar_is_in_place.Goals as goal

pub returns : goal.returns
returns c = what_is_in_grammar_is_in_place
