use Rattle.script_grammar.proofs.Happening.{events_alone}
use Rattle.script_grammar.proofs.laws.only_events_follow_events.Goals as goal

pub returns : goal.returns
returns c = events_alone
