-- What is accepted: the claims of the public law.
use Rattle.std.specs.Prelude.{◌≡◌, ℕ, ◌+◌, ◌≤◌, true, false, List, slice_get, Some, None}
use Rattle.rsvp_base.specs.declared.iface.Iface.{Iface}
use Rattle.rsvp_base.specs.declared.part.Part.{Part}
use Rattle.rsvp_base.specs.declared.session.Session.{Session}
use Rattle.rsvp_base.specs.declared.style.StyleKind.{StyleKind}
use Rattle.rsvp_base.specs.declared.style.Unit.{Unit as UnitOf}
use Rattle.rsvp_base.specs.Members.{In}
use Rattle.rsvp_base.specs.Orders.{Names}
use Rattle.rsvp_base.specs.Sets.{IsWithin, is_none}
use Rattle.rsvp_base.specs.Table.{get}
use Rattle.rsvp_messages.specs.declared.message.Message.TheVariants as message
use Rattle.rsvp_messages.specs.declared.message.ResvErrMsg.{ResvErrMsg}
use Rattle.rsvp_messages.specs.declared.message.ResvMsg.{ResvMsg}
use Rattle.rsvp_messages.specs.Proper.{IsProperAsk}
use Rattle.rsvp_messages.specs.Units.{AskedUnit, ask_style, asked_units}
use Rattle.style_rules.specs.Limits.{IsWithinLimits}
use Rattle.style_rules.specs.Lines.{AreUnder, IsUnder, Line, LineKey, book_of_end, held}
use Rattle.rsvp_base.specs.declared.entry_key.EntryKey.{EntryKey}
use Rattle.laws_bounds.specs.RouterRules.declared.answers.Heard.TheVariants as heard
use Rattle.laws_bounds.specs.RouterRules.Asking.{Asker, asker_of, book_refuses, has_room, matched, table_with}
use Rattle.laws_bounds.specs.RouterRules.Books.{lines}
use Rattle.laws_bounds.specs.RouterRules.Bounds.{IsWithinBounds}
use Rattle.laws_bounds.specs.RouterRules.Facts.{Facts, Resvs, ResvState, Want, resvs_of, with_resvs}
use Rattle.laws_bounds.specs.RouterRules.Inputs.{Came, Input, Send, Spelt}
use Rattle.laws_bounds.specs.RouterRules.NodeConfig.{NodeConfig, lifetime, own}
use Rattle.laws_bounds.specs.RouterRules.Rule.{rule}
use Rattle.laws_bounds.specs.RouterRules.Steps.{facts_then, sent_then}

-- ---- lines that a node can hold, as far as a session at an interface goes: all within the limits of each table, those of the
-- interface within its capacity, and those of the session there within its MTU
pub record CanBeHeld (p : NodeConfig) (s : Session) (i : ℕ) (gs : List Line) : Type 0 where
  pub limits : (st : StyleKind) → IsWithinLimits st gs
  pub capacity : (on : Iface) → slice_get p.ifaces i ≡ Some on → held (book_of_end i gs) ≤ on.capacity
  pub mtu : (on : Iface) (k : EntryKey) (part : Part) → slice_get p.ifaces i ≡ Some on → k.session ≡ s → get (book_of_end i gs) k ≡ Some part → part.flow.most ≤ on.mtu

-- the line that a unit would be
abbrev pub line_at : Asker → UnitOf → Part → Line
line_at o u part = record { style = o.style; session = o.session; end = o.iface; next = o.next; unit = u; part = part }

-- one of the lines can stand for it
abbrev pub HasPlace : Asker → UnitOf → Part → List Line → Type 0
HasPlace o u part gs = (g : Line) × In g gs × IsUnder (line_at o u part) g

-- ---- one unit, in the middle of a Resv: the reservations so far are t
pub record IsBooked (p : NodeConfig) (o : Asker) (f : Facts) (t : Resvs) (u : UnitOf) (part : Part) (gs : List Line) : Type 0 where
  pub room : has_room o u part t ≡ true
  pub open_to : book_refuses p o f u part t ≡ None
  pub under : AreUnder (lines (with_resvs o.style (table_with o u part t) f)) gs

-- ---- a whole Resv
-- a unit that lists names, of which each matches: it is known and its tree goes out of the interface
pub record IsPlaced (p : NodeConfig) (o : Asker) (f : Facts) (gs : List Line) (u : AskedUnit) : Type 0 where
  pub names : Names
  pub listed : u.names ≡ Some names
  pub some : is_none names ≡ false
  pub match : IsWithin names (matched p f o)
  pub place : HasPlace o u.unit (record { senders = names; flow = u.flow }) gs

pub record CanBeTaken (p : NodeConfig) (c e : ℕ) (m : ResvMsg) (f : Facts) (gs : List Line) : Type 0 where
  pub proper : IsProperAsk m.ask
  pub lines_held : CanBeHeld p m.session e gs
  -- what is there, and what is asked for, lies under the lines
  pub there : AreUnder (lines f) gs
  pub units : (u : AskedUnit) → In u (asked_units m.ask) → IsPlaced p (asker_of p c e m) f gs u
  -- nothing of the session has another style
  pub resv_style : (st : StyleKind) (k : LineKey) (r : ResvState) → get (resvs_of st f) k ≡ Some r → k.0 ≡ m.session → st ≡ ask_style m.ask
  pub want_style : (u : UnitOf) (w : Want) → get f.wants (m.session, u) ≡ Some w → w.style ≡ ask_style m.ask

abbrev pub came_resv : NodeConfig → ℕ → ResvMsg → Input
came_resv p e m = Came e (own p e) (Spelt (message.Resv m))

-- it is taken whole: each unit has its reservation, nobody is told of an error, and all still lies under the lines
pub record IsTakenWhole (old p : NodeConfig) (c e : ℕ) (m : ResvMsg) (f : Facts) (gs : List Line) : Type 0 where
  pub heard_it : (rule old p c (came_resv p e m) f).heard ≡ heard.Taken
  pub no_error : (s : Send) (w : ResvErrMsg) → In s (sent_then old p c (came_resv p e m) f) → s.message ≡ message.ResvErr w → ⊥
  pub facts : (u : AskedUnit) (names : Names) → In u (asked_units m.ask) → u.names ≡ Some names
      → (r : ResvState) × (get (resvs_of (ask_style m.ask) (facts_then old p c (came_resv p e m) f)) (m.session, ((e, m.hop.addr), u.unit)) ≡ Some r)
      × (r.part ≡ record { senders = names; flow = u.flow }) × (r.dies ≡ c + lifetime p m.period)
  pub under : AreUnder (lines (facts_then old p c (came_resv p e m) f)) gs

pub record WhatIsAccepted : Type 0 where
  pub unit : (p : NodeConfig) (o : Asker) (f : Facts) (t : Resvs) (u : UnitOf) (part : Part) (gs : List Line) → CanBeHeld p o.session o.iface gs
      → AreUnder (lines (with_resvs o.style t f)) gs → HasPlace o u part gs → IsBooked p o f t u part gs
  pub whole : (old p : NodeConfig) (b c e : ℕ) (m : ResvMsg) (f : Facts) (gs : List Line) → IsWithinBounds old b f → CanBeTaken p c e m f gs → IsTakenWhole old p c e m f gs
