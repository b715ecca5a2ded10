-- The events of the network's run that those of lines are.
use Rattle.std.specs.Prelude.{None, Some, Option, Result, Ok, Err}
use Rattle.rsvp_messages.specs.declared.fault.Fault.TheVariants as fault
use Rattle.rsvp_messages.specs.declared.fault.MsgErr.{MsgErr}
use Rattle.rsvp_messages.specs.declared.message.Message.{Message}
use Rattle.message_codec.specs.Hints.{no_hint}
use Rattle.router_rules.specs.Inputs.{Arrival, Spelt, Unspelt}
use Rattle.script_grammar.specs.Events.{Event as Happening}
use Rattle.network_model.specs.Happenings.{event_with}
use Rattle.network_model.specs.declared.event.Event.{Event}

-- what bytes are, as they were read; with no bytes, nothing that is spelt
abbrev pub arrival_of : Option (Result Message MsgErr) → Arrival
arrival_of None = Unspelt (record { fault = fault.Short; kind = None; hint = no_hint })
arrival_of (Some (Ok m)) = Spelt m
arrival_of (Some (Err e)) = Unspelt e

-- an event, and how its bytes were read, if it has any
abbrev pub event_of : Event × Option (Result Message MsgErr) → Happening
event_of e = event_with (arrival_of e.1) e.0
