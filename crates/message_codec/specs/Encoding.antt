-- The bytes that a message is written as: the common header, and the spellings of its objects.
use Rattle.std.specs.Prelude.{ℕ, ◌+◌, ◌-◌, ◌≤◌, List, [], ◌∷◌, ◌++◌, length, Option, Some, None}
use Rattle.std.specs.List.{AllByRecursion}
use Rattle.rsvp_base.specs.Orders.{Names}
use Rattle.rsvp_base.specs.Table.{size}
use Rattle.rsvp_objects.specs.declared.adspec.Adspec.{Adspec}
use Rattle.rsvp_objects.specs.declared.object.Object.{Object}
use Rattle.rsvp_objects.specs.Fields.{half}
use Rattle.rsvp_objects.specs.Proper.{IsProper as IsProperObject}
use Rattle.rsvp_objects.specs.Spelling.{spelling}
use Rattle.rsvp_messages.specs.declared.ask.Ask.{Ask}
use Rattle.rsvp_messages.specs.declared.ask.Ask.TheVariants as ask
use Rattle.rsvp_messages.specs.declared.ask.Tear.{Tear}
use Rattle.rsvp_messages.specs.declared.ask.Tear.TheVariants as tear
use Rattle.rsvp_messages.specs.declared.message.Kind.{Kind}
use Rattle.rsvp_messages.specs.declared.message.Kind.TheVariants as kind
use Rattle.rsvp_messages.specs.declared.message.Message.{Message}
use Rattle.rsvp_messages.specs.declared.message.Message.TheVariants as message
use Rattle.rsvp_messages.specs.Kinds.{kind_of}
use Rattle.rsvp_messages.specs.Proper.{IsProper}
use Rattle.message_codec.specs.Sum.{ones_sum}
use Rattle.message_codec.specs.Objects.{objects_of}

abbrev pub spellings : List Object → List ℕ
spellings [] = []
spellings (x ∷ xs) = spelling x ++ spellings xs

-- the message type (RFC 2205, 3.1.1)
abbrev pub kind_number : Kind → ℕ
kind_number kind.Path = 1
kind_number kind.Resv = 2
kind_number kind.PathErr = 3
kind_number kind.ResvErr = 4
kind_number kind.PathTear = 5
kind_number kind.ResvTear = 6
kind_number kind.ResvConf = 7

-- version 1, no flags, the type, a checksum, Send_TTL 64, the length
abbrev pub header : Kind → ℕ → ℕ → List ℕ
header k sum n = 16 ∷ kind_number k ∷ half sum ++ 64 ∷ 0 ∷ half n

-- the one's complement of the sum with the field at zero
abbrev pub checksum : Kind → List ℕ → ℕ
checksum k body = 65535 - ones_sum (header k 0 (8 + length body) ++ body)

unfoldable pub sealed : Kind → List ℕ → List ℕ
sealed k body = header k (checksum k body) (8 + length body) ++ body

abbrev pub body_of : Message → List ℕ
body_of v = spellings (objects_of v)

unfoldable pub encoding : Message → List ℕ
encoding v = sealed (kind_of v) (body_of v)

-- ---- which messages are read again

abbrev pub AreFew : Option Names → Type 0
AreFew None = Unit {0}
AreFew (Some names) = size names ≤ 16

abbrev pub IsAskFew : Ask → Type 0
IsAskFew (ask.Wild scope f) = AreFew scope
IsAskFew (ask.Fixed list) = size list ≤ 16
IsAskFew (ask.Shared part) = size part.senders ≤ 16

abbrev pub IsTearFew : Tear → Type 0
IsTearFew (tear.Wild scope) = AreFew scope
IsTearFew (tear.Fixed names) = size names ≤ 16
IsTearFew (tear.Shared names) = size names ≤ 16

abbrev pub IsAdvertFew : Option Adspec → Type 0
IsAdvertFew None = Unit {0}
IsAdvertFew (Some a) = length a.others ≤ 24

-- lists have at most 16 senders and fragments at most 24 words, as those of code have
abbrev pub IsFew : Message → Type 0
IsFew (message.Path v) = IsAdvertFew v.adspec
IsFew (message.Resv v) = IsAskFew v.ask
IsFew (message.PathErr v) = Unit {0}
IsFew (message.ResvErr v) = AreFew v.blame.senders
IsFew (message.PathTear v) = Unit {0}
IsFew (message.ResvTear v) = IsTearFew v.tear
IsFew (message.ResvConf v) = IsAskFew v.ask

-- a proper message whose numbers have room in their fields, and whose lists are short enough
pub record IsWritable (v : Message) : Type 0 where
  pub proper : IsProper v
  pub fields : AllByRecursion IsProperObject (objects_of v)
  pub few : IsFew v
