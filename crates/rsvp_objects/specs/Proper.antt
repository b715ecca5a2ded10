-- Which objects have a spelling that is read as them, and the laws of objects.
use Rattle.std.specs.Prelude.{◌≡◌, ℕ, ◌+◌, ◌%◌, ◌<◌, ◌≤◌, ◌^◌, List, ◌++◌, length, IsTrue, Ok}
use Rattle.std.specs.List.{AllByRecursion}
use Rattle.rsvp_base.specs.Orders.{Names}
use Rattle.rsvp_base.specs.Rates.{IsRate}
use Rattle.rsvp_base.specs.Table.{keys, size}
use Rattle.rsvp_base.specs.TokenBucket.{TokenBucket, IsSound}
use Rattle.rsvp_base.specs.declared.addr.Addr.{Addr}
use Rattle.rsvp_base.specs.declared.err_spec.ErrSpec.{ErrSpec}
use Rattle.rsvp_base.specs.declared.hop.Hop.{Hop}
use Rattle.rsvp_base.specs.declared.session.Sender.{Sender}
use Rattle.rsvp_base.specs.declared.session.Session.{Session}
use Rattle.rsvp_objects.specs.AdspecLaws.{IsAdspec}
use Rattle.rsvp_objects.specs.declared.read_class.ReadClass.TheVariants as class
use Rattle.rsvp_objects.specs.declared.object.Object.{Object}
use Rattle.rsvp_objects.specs.declared.object.Object.TheVariants as object
use Rattle.rsvp_objects.specs.Classes.{class_number, ctype_of, adspec, is_skipped}
use Rattle.rsvp_objects.specs.Fields.{AreBytes}
use Rattle.rsvp_objects.specs.RateLaws.{IsPeak}
use Rattle.rsvp_objects.specs.Reading.{body_of, object_at}
use Rattle.rsvp_objects.specs.Spelling.{spelling}

-- Class-Num of an object
abbrev pub class_of : Object → ℕ
class_of (object.Session s police) = class_number class.Session
class_of (object.HopOf h) = class_number class.RsvpHop
class_of (object.Time period) = class_number class.TimeValues
class_of (object.Error e) = class_number class.ErrorSpec
class_of (object.Scope names) = class_number class.Scope
class_of (object.StyleOf kind) = class_number class.Style
class_of (object.FlowOf f) = class_number class.FlowSpec
class_of (object.Filter s) = class_number class.FilterSpec
class_of (object.Template s) = class_number class.SenderTemplate
class_of (object.Tspec f) = class_number class.SenderTspec
class_of (object.Advert a) = adspec
class_of (object.Confirm a) = class_number class.ResvConfirm
class_of (object.Skipped n) = n

-- and the C-Type under which it is written
abbrev pub ctype_with : Object → ℕ
ctype_with (object.FlowOf f) = ctype_of class.FlowSpec
ctype_with (object.Tspec f) = ctype_of class.SenderTspec
ctype_with (object.Advert a) = 2
ctype_with (object.Skipped n) = 0
ctype_with _ = 1

-- ---- numbers that their fields have room for

abbrev pub IsAddr : Addr → Type 0
IsAddr a = a.0 < 2 ^ 32

pub record IsSession (s : Session) : Type 0 where
  pub group : IsAddr s.group
  pub proto : s.proto < 2 ^ 8
  pub port : s.port < 2 ^ 16

pub record IsHop (h : Hop) : Type 0 where
  pub addr : IsAddr h.addr
  pub handle : h.handle < 2 ^ 32

pub record IsError (e : ErrSpec) : Type 0 where
  pub node : IsAddr e.node
  pub code : e.code < 2 ^ 8
  pub value : e.value < 2 ^ 16

pub record IsSender (s : Sender) : Type 0 where
  pub addr : IsAddr s.addr
  pub port : s.port < 2 ^ 16

-- a sender that a SCOPE names
pub record IsSource (s : Sender) : Type 0 where
  pub addr : IsAddr s.addr
  pub port : s.port ≡ 0

pub record IsScope (names : Names) : Type 0 where
  pub few : size names ≤ 16
  pub sources : AllByRecursion IsSource (keys names)

pub record IsFlow (f : TokenBucket) : Type 0 where
  pub sound : IsSound f
  pub r : IsRate f.r
  pub b : IsRate f.b
  pub p : IsPeak f.p
  pub low : f.low < 2 ^ 32
  pub most : f.most < 2 ^ 32

pub record IsSkipped (n : ℕ) : Type 0 where
  pub byte : n < 2 ^ 8
  pub skipped : IsTrue (is_skipped n)

abbrev pub IsProper : Object → Type 0
IsProper (object.Session s police) = IsSession s
IsProper (object.HopOf h) = IsHop h
IsProper (object.Time period) = period < 2 ^ 32
IsProper (object.Error e) = IsError e
IsProper (object.Scope names) = IsScope names
IsProper (object.StyleOf kind) = Unit {0}
IsProper (object.FlowOf f) = IsFlow f
IsProper (object.Filter s) = IsSender s
IsProper (object.Template s) = IsSender s
IsProper (object.Tspec f) = IsFlow f
IsProper (object.Advert a) = IsAdspec a
IsProper (object.Confirm a) = IsAddr a
IsProper (object.Skipped n) = IsSkipped n

-- ---- laws

-- whatever stands before and behind, a proper object is read where its spelling begins, and the next place is behind it
abbrev pub WhatWasPutIsReadAgain : Type 0
WhatWasPutIsReadAgain = (x : Object) → IsProper x → (before after : List ℕ) → object_at (length before) (before ++ (spelling x ++ after)) ≡ Ok (x, length before + length (spelling x))

-- a spelling is whole words, at least the head and at most 68 bytes, of an ADSPEC 144
abbrev pub most_bytes : Object → ℕ
most_bytes (object.Advert a) = 144
most_bytes _ = 68

pub record IsWholeWords (text : List ℕ) (most : ℕ) : Type 0 where
  pub head : 4 ≤ length text
  pub words : length text % 4 ≡ 0
  pub most_is : length text ≤ most

abbrev pub SpellingsAreWholeWords : Type 0
SpellingsAreWholeWords = (x : Object) → IsProper x → IsWholeWords (spelling x) (most_bytes x)

-- an object has the class under which it was read
abbrev pub ObjectsHaveTheirClass : Type 0
ObjectsHaveTheirClass = (at n ctype : ℕ) (body : List ℕ) (x : Object) → body_of at n ctype body ≡ Ok x → class_of x ≡ n

-- what is read has a spelling that is read as it
abbrev pub WhatIsReadIsProper : Type 0
WhatIsReadIsProper = (bytes : List ℕ) (at next : ℕ) (x : Object) → AreBytes bytes → object_at at bytes ≡ Ok (x, next) → IsProper x
