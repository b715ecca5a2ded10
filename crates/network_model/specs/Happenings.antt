-- What happens, as code has it: local calls and events are those of the model, whose datagrams are what their bytes spell.
use Rattle.std.specs.Prelude.{ℕ, List, ◌≤◌, length}
use Rattle.router_examples.specs.RsvpMessages.declared.fault.MsgErr.{MsgErr}
use Rattle.router_examples.specs.RsvpMessages.declared.message.Message.{Message}
use Rattle.router_examples.specs.RouterRules.Inputs.{Arrival, Spelt, Unspelt, Local, SendAs, DropAs, AdvertAs, WantAs, QuitAll}
use Rattle.router_examples.specs.RouterRules.Steps.{IsFitCall}
use Rattle.network_model.specs.Events.{Event as AnEvent, AtNode, Waits, Pass, DeliverAt, LoseAt, CopyAt, ClearNode, Rounds, Traces, Reports, ReportsFlags, ReportsAdverts, Injects, Reroutes}
use Rattle.network_model.specs.declared.event.Event.{Event}
use Rattle.network_model.specs.declared.event.Event.TheVariants as event
use Rattle.network_model.specs.declared.local_call.LocalCall.{LocalCall}
use Rattle.network_model.specs.declared.local_call.LocalCall.TheVariants as call

abbrev pub call_of : LocalCall → Local
call_of (call.Send session sender flow) = SendAs session sender flow
call_of (call.Advert session sender) = AdvertAs session sender
call_of (call.Gone session sender) = DropAs session sender
call_of (call.Want session style senders flow confirm) = WantAs session style senders flow confirm
call_of (call.Quit session) = QuitAll session

-- an event whose bytes, if it has any, are this
abbrev pub event_with : Arrival → Event → AnEvent
event_with a (event.Local node c) = AtNode node (call_of c)
event_with a (event.Wait ms) = Waits ms
event_with a (event.Pass times) = Pass times
event_with a (event.Deliver place) = DeliverAt place
event_with a (event.Lose place) = LoseAt place
event_with a (event.Again place) = CopyAt place
event_with a (event.Clear node) = ClearNode node
event_with a (event.Rounds times) = Rounds times
event_with a (event.Trace on) = Traces on
event_with a (event.Report end) = Reports end
event_with a event.Flags = ReportsFlags
event_with a event.Adverts = ReportsAdverts
event_with a (event.Inject end dst bytes) = Injects end dst a
event_with a (event.Reroute group source hops) = Reroutes group source hops.items

-- a call has sound flows and names someone where its style does, and what is injected is no longer than a datagram may be
abbrev pub IsFitEvent : Event → Type 0
IsFitEvent (event.Local node c) = IsFitCall (call_of c)
IsFitEvent (event.Inject end dst bytes) = length bytes.items ≤ 4096
IsFitEvent _ = Unit {0}

-- by which bytes spell a message, and which fault is the first of others
module _ (spells : List ℕ → Message → Type 0) (fails : List ℕ → MsgErr → Type 0) where
  -- what bytes are: a message, or why they are none
  abbrev pub IsSpelling : List ℕ → Arrival → Type 0
  IsSpelling bytes (Spelt m) = spells bytes m
  IsSpelling bytes (Unspelt e) = fails bytes e

  -- what the bytes of an event are, if it has any
  abbrev pub IsReading : Event → Arrival → Type 0
  IsReading (event.Inject end dst bytes) a = IsSpelling bytes.items a
  IsReading _ a = Unit {0}
