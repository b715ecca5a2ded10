-- Which bytes spell a message, and else their first fault.
use Rattle.std.specs.Prelude.{◌≡◌, ℕ, ◌/◌, ◌<◌, ◌==◌, not, nat_lt, List, [], length, Some, None, Result, Ok, Err, ◌⊎◌, if◌then◌else◌}
use Rattle.rsvp_objects.specs.declared.object.Object.{Object}
use Rattle.rsvp_objects.specs.Fields.{byte_at, half_at}
use Rattle.rsvp_messages.specs.declared.fault.Fault.{Fault}
use Rattle.rsvp_messages.specs.declared.fault.Fault.TheVariants as fault
use Rattle.rsvp_messages.specs.declared.fault.MsgErr.{MsgErr}
use Rattle.rsvp_messages.specs.declared.message.Kind.{Kind}
use Rattle.rsvp_messages.specs.declared.message.Kind.TheVariants as kind
use Rattle.rsvp_messages.specs.declared.message.Message.{Message}
use Rattle.rsvp_messages.specs.Kinds.{kind_of}
use Rattle.message_codec.specs.Grammar.{IsMessage}
use Rattle.message_codec.specs.Hints.{IsHint, no_hint}
use Rattle.message_codec.specs.Messages.{message_of}
use Rattle.message_codec.specs.Places.{object_in, Stand}
use Rattle.message_codec.specs.Said.{seen_of}
use Rattle.message_codec.specs.Sum.{is_right}

-- ---- the common header (RFC 2205, 3.1.1)
--
--     +-------------+-------------+-------------+-------------+
--     | Vers | Flags|  Msg Type   |       RSVP Checksum       |
--     +-------------+-------------+-------------+-------------+
--     |  Send_TTL   | (Reserved)  |        RSVP Length        |
--     +-------------+-------------+-------------+-------------+

abbrev pub kind_with : ℕ → Result Kind Fault
kind_with n =
    if n == 1 then Ok kind.Path else
    if n == 2 then Ok kind.Resv else
    if n == 3 then Ok kind.PathErr else
    if n == 4 then Ok kind.ResvErr else
    if n == 5 then Ok kind.PathTear else
    if n == 6 then Ok kind.ResvTear else
    if n == 7 then Ok kind.ResvConf else Err fault.Kind

-- the kind that the header names, or the header's first fault
unfoldable pub header_of : List ℕ → Result Kind Fault
header_of b =
    if nat_lt 4096 (length b) then Err fault.TooLong else
    if nat_lt (length b) 8 then Err fault.Short else
    if not (byte_at 0 b / 16 == 1) then Err fault.Version else
    if not (half_at 6 b == length b) then Err fault.Length else
    if not (is_right b) then Err fault.Checksum else kind_with (byte_at 1 b)

-- ---- behind the header

-- how the walk comes by it: objects stand to the end, each where it may, and make the message
abbrev pub Says : Kind → List ℕ → Message → Type 0
Says kind b v = (xs : List Object) × Stand kind b [] 8 xs (length b) × (message_of kind (seen_of xs) ≡ Ok v)

-- objects stand up to a place, each where it may, and there stands the fault
abbrev pub StopsAt : Kind → List ℕ → Fault → Type 0
StopsAt kind b g = (xs : List Object) × (at : ℕ) × Stand kind b [] 8 xs at × (at < length b) × (object_in kind (seen_of xs) at b ≡ Err g)

-- objects stand to the end, each where it may, and a class is missing
abbrev pub Lacks : Kind → List ℕ → Fault → Type 0
Lacks kind b g = (xs : List Object) × Stand kind b [] 8 xs (length b) × (message_of kind (seen_of xs) ≡ Err g)

abbrev pub Fails : Kind → List ℕ → Fault → Type 0
Fails kind b g = StopsAt kind b g ⊎ Lacks kind b g

-- ---- the whole

-- the header names the kind of the message, and the objects behind it are in the grammar and mean the message
abbrev pub Spells : List ℕ → Message → Type 0
Spells b v = (header_of b ≡ Ok (kind_of v)) × IsMessage b v

-- a fault of the header says nothing else
pub record IsHeaderFault (b : List ℕ) (e : MsgErr) : Type 0 where
  pub fault : header_of b ≡ Err e.fault
  pub kind : e.kind ≡ None
  pub hint : e.hint ≡ no_hint

-- any other tells the kind, and what could be read
pub record IsObjectFault (b : List ℕ) (e : MsgErr) : Type 0 where
  pub named : Kind
  pub header : header_of b ≡ Ok named
  pub fault : Fails named b e.fault
  pub kind : e.kind ≡ Some named
  pub hint : IsHint b e.hint

abbrev pub IsFirstFault : List ℕ → MsgErr → Type 0
IsFirstFault b e = IsHeaderFault b e ⊎ IsObjectFault b e
