-- What the state of lines is seen as.
use Rattle.std.specs.Prelude.{map as each}
use Rattle.stale_state.specs.Listed.{stale_in}
use Rattle.script_grammar.specs.Draft.{Draft}
use Rattle.script_rules.specs.Events.{event_of}
use Rattle.script_rules.specs.Forcing.{hops_in_force}
use Rattle.script_rules.specs.declared.state.ScriptState.{ScriptState}

abbrev pub draft_of : ScriptState → Draft
draft_of c = record {
  period = c.period;
  seed = c.seed;
  nodes = c.nodes;
  names = c.names;
  net = c.topology;
  timed = c.timed.items;
  force = hops_in_force c.force c.topology.hops;
  stale = stale_in c.left;
  sessions = c.sessions.items;
  locals = record { senders = c.senders.items; wants = c.wants };
  events = each event_of c.events.items;
}
