-- The laws of what bytes spell.
use Rattle.std.specs.Prelude.{◌≡◌, ◌≤◌, ℕ, true, false, ◌||◌, ◌==◌, List, [], ◌∷◌, ◌++◌, Some, None}
use Rattle.rsvp_base.specs.declared.style.StyleKind.{StyleKind}
use Rattle.rsvp_messages.specs.declared.fault.MsgErr.{MsgErr}
use Rattle.rsvp_messages.specs.declared.message.Message.{Message}
use Rattle.rsvp_messages.specs.Proper.{IsProper}
use Rattle.rsvp_messages.specs.declared.message.Kind.{Kind}
use Rattle.rsvp_objects.specs.declared.object.Object.{Object}
use Rattle.rsvp_objects.specs.Fields.{AreBytes}
use Rattle.rsvp_objects.specs.Classes.{flowspec, filter_spec}
use Rattle.rsvp_objects.specs.Proper.{class_of}
use Rattle.message_codec.specs.Grammar.{how_many, IsInGrammar}
use Rattle.message_codec.specs.Places.{has_place, is_repeated, name_fault, Stand}
use Rattle.message_codec.specs.Said.{style_said, last_said, seen_of}
use Rattle.message_codec.specs.Table.{role_of, stands_once, is_anywhere}
use Rattle.message_codec.specs.Spells.{Spells, IsFirstFault}

-- bytes spell at most one message
abbrev pub AMessageIsOne : Type 0
AMessageIsOne = (b : List ℕ) (v w : Message) → Spells b v → Spells b w → v ≡ w

-- bytes that spell a message have no fault
abbrev pub NoFaultWhereSpelt : Type 0
NoFaultWhereSpelt = (b : List ℕ) (v : Message) (e : MsgErr) → Spells b v → IsFirstFault b e → ⊥

-- bytes have at most one first fault, with one kind and one hint
abbrev pub TheFirstFaultIsOne : Type 0
TheFirstFaultIsOne = (b : List ℕ) (e f : MsgErr) → IsFirstFault b e → IsFirstFault b f → e ≡ f

-- a message that bytes spell is proper
abbrev pub WhatIsSpeltIsProper : Type 0
WhatIsSpeltIsProper = (b : List ℕ) (v : Message) → AreBytes b → Spells b v → IsProper v

-- ---- what may be said of all objects of a message at once

-- an object is in its place, its class did not stand before where it stands once, and its sender is new
pub record IsInPlace (kind : Kind) (before : List Object) (x : Object) : Type 0 where
  pub place : has_place kind (seen_of before) (class_of x) ≡ true
  pub once : is_repeated kind (seen_of before) (class_of x) ≡ false
  pub name : (at : ℕ) → name_fault at (seen_of before) x ≡ None

-- each object of a list that stands somewhere is in its place behind those before it, whatever the bytes are
abbrev pub EachObjectIsInPlace : Type 0
EachObjectIsInPlace = (kind : Kind) (b : List ℕ) (end : ℕ) (before after : List Object) (x : Object) → Stand kind b [] 8 (before ++ x ∷ after) end → IsInPlace kind before x

-- a class that stands once by the table stands at most once
abbrev pub WhatStandsOnceIsSaidOnce : Type 0
WhatStandsOnceIsSaidOnce = (kind : Kind) (b : List ℕ) (xs : List Object) (end n : ℕ) → AreBytes b → Stand kind b [] 8 xs end → stands_once (role_of kind n) ≡ true → how_many n xs ≤ 1

-- behind a STYLE stand FLOWSPECs, FILTER_SPECs, and what may stand anywhere
abbrev pub BehindStyleStandsTheList : Type 0
BehindStyleStandsTheList = (kind : Kind) (b : List ℕ) (end : ℕ) (before after : List Object) (x : Object) (k : StyleKind)
    → Stand kind b [] 8 (before ++ x ∷ after) end → last_said style_said before ≡ Some k
    → (is_anywhere (class_of x) || (class_of x == flowspec || class_of x == filter_spec)) ≡ true

-- ---- and the other way round

-- what is in the grammar of its kind is in its place, object by object
abbrev pub WhatIsInGrammarIsInPlace : Type 0
WhatIsInGrammarIsInPlace = (kind : Kind) (before after : List Object) (x : Object) → IsInGrammar kind (before ++ x ∷ after) → IsInPlace kind before x

-- and what stands somewhere is in the grammar
abbrev pub WhatStandsIsInGrammar : Type 0
WhatStandsIsInGrammar = (kind : Kind) (b : List ℕ) (xs : List Object) (end : ℕ) → AreBytes b → Stand kind b [] 8 xs end → IsInGrammar kind xs
