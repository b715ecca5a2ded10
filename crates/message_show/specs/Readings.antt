-- What is shown of bytes: the message that they spell, or their first fault.
use Rattle.std.specs.Prelude.{◌≡◌, ◌⊎◌, ℕ, List}
use Rattle.message_codec.specs.Spells.{Spells, IsFirstFault}
use Rattle.rsvp_messages.specs.declared.fault.MsgErr.{MsgErr}
use Rattle.rsvp_messages.specs.declared.message.Message.{Message}
use Rattle.message_show.specs.MessageText.{message_text}
use Rattle.message_show.specs.RefusalText.{refusal_text}

-- the text is the line of the message that the bytes spell
pub record IsOfMessage (bytes text : List ℕ) : Type 0 where
  pub message : Message
  pub spelt : Spells bytes message
  pub line : text ≡ message_text message

-- the bytes spell no message, and the text is the line of their first fault
pub record IsOfFault (bytes text : List ℕ) : Type 0 where
  pub error : MsgErr
  pub first : IsFirstFault bytes error
  pub line : text ≡ refusal_text error.fault

abbrev pub IsReading : List ℕ → List ℕ → Type 0
IsReading bytes text = IsOfMessage bytes text ⊎ IsOfFault bytes text
