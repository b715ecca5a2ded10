use Rattle.std.proofs.Common.{None, ap, ◌∙◌}
use Rattle.std.specs.Prelude.{map as each}
use Rattle.std.proofs.lemmas.List.{map-append}
use Rattle.script_rules.specs.Events.{arrival_of, event_of}
use Rattle.script_rules.proofs.keeping.keep_adverts.Goals as goal

pub returns-clause-event : goal.returns-clause-event
returns-clause-event c =
    record { fit = tt; arrival = arrival_of None; read = tt; events = ap (each event_of) c.and-state.ensures ∙ map-append event_of c.args.state.now.events.items _ }
