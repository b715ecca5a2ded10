use Rattle.script_grammar.proofs.Happening.{adds_one_event}
use Rattle.script_grammar.proofs.laws.events_are_added.Goals as goal

pub returns : goal.returns
returns c = adds_one_event
