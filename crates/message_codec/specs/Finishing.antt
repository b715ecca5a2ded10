-- What is told of a message whose objects were all walked.
use Rattle.std.specs.Prelude.{◌≡◌, ℕ, List, Some, Result, Ok, Err}
use Rattle.rsvp_messages.specs.declared.fault.MsgErr.{MsgErr}
use Rattle.rsvp_messages.specs.declared.message.Kind.{Kind}
use Rattle.rsvp_messages.specs.declared.message.Message.{Message}
use Rattle.message_codec.specs.declared.seen.Seen.{Seen}
use Rattle.message_codec.specs.Hints.{IsHint}
use Rattle.message_codec.specs.Messages.{message_of}

-- the message that they make, or the class that is missing, with the kind and what could be read
abbrev pub Finishes : Kind → Seen → List ℕ → Result Message MsgErr → Type 0
Finishes kind s b (Ok v) = message_of kind s ≡ Ok v
Finishes kind s b (Err e) = (message_of kind s ≡ Err e.fault) × (e.kind ≡ Some kind) × IsHint b e.hint
