use Rattle.script_rules.specs.Events.{event_of}
use Rattle.script_rules.proofs.Counts.{none_yet}
use Rattle.script_rules.proofs.parts.is_before_events.Goals as goal

pub returns : goal.returns
returns c = let state = c.args.state.now in none_yet event_of state.events.items state.begun state.began
