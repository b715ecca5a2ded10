-- What a Resv does as a whole: it is refused for want of a path or for its style, or its units are handled one by one: the
-- claims of the public laws.
use Rattle.std.specs.Prelude.{◌≡◌, ℕ, ◌⊎◌, ◌↔◌, true, false, cond, List, [], ◌∷◌, ◌++◌, Option, Some, None}
use Rattle.std.specs.Ordering.{is_lt}
use Rattle.rsvp_base.specs.declared.addr.Addr.{Addr}
use Rattle.rsvp_base.specs.declared.part.Part.{Part}
use Rattle.rsvp_base.specs.declared.session.Sender.{Sender}
use Rattle.rsvp_base.specs.declared.session.Session.{Session}
use Rattle.rsvp_base.specs.declared.style.StyleKind.{StyleKind}
use Rattle.rsvp_base.specs.declared.style.StyleKind.TheVariants.{Wild}
use Rattle.rsvp_base.specs.declared.style.Unit.{Unit as UnitOf}
use Rattle.rsvp_base.specs.Members.{In}
use Rattle.rsvp_base.specs.Orders.{Names, styles}
use Rattle.rsvp_base.specs.Sets.{is_none}
use Rattle.rsvp_base.specs.Table.{get, has, put_in}
use Rattle.router_rules.specs.Lines.{NextHop, LineKey}
use Rattle.router_rules.specs.Parts.{part_of, has_name}
use Rattle.admission_book.specs.declared.refused.Refused.{Refused}
use Rattle.router_rules.specs.RsvpMessages.declared.message.ResvMsg.{ResvMsg}
use Rattle.router_rules.specs.RsvpMessages.Units.{AskedUnit, ask_style, asked_units}
use Rattle.router_rules.specs.declared.answers.Heard.TheVariants as heard
use Rattle.router_rules.specs.declared.answers.Why.TheVariants as why
use Rattle.router_rules.specs.Asking.{Asker, Taking, act_resv, answered, ask_of, asker_of, book_refuses, errors_in_order, has_entry, has_room, has_style, lost, matched, names_that_match}
use Rattle.router_rules.specs.Asking.{nothing_taken, refusal, refuse_all, style_conflict, style_value, table_with, take_unit, take_units, taking, tell_lost, value_of, key_at, resv_state}
use Rattle.router_rules.specs.Asking.{as_listed, Nobody, These}
use Rattle.router_rules.specs.Facts.{Facts, ResvState, Want, resvs_of, Resvs}
use Rattle.router_rules.specs.Inputs.{ErrSend}
use Rattle.router_rules.specs.Known.{known}
use Rattle.router_rules.specs.NodeConfig.{NodeConfig, goes_out}
use Rattle.laws_bounds.specs.FactLaws.{IsNamed}

-- ---- styles
pub record IsResvIn (f : Facts) (s : Session) (st : StyleKind) : Type 0 where
  pub key : NextHop × UnitOf
  pub resv : ResvState
  pub there : get (resvs_of st f) (s, key) ≡ Some resv

pub record IsWantIn (f : Facts) (s : Session) (st : StyleKind) : Type 0 where
  pub unit : UnitOf
  pub want : Want
  pub there : get f.wants (s, unit) ≡ Some want
  pub style : want.style ≡ st

-- a session has another style than the one that is asked for, and no such style comes before it
pub record IsConflict (f : Facts) (s : Session) (st other : StyleKind) : Type 0 where
  pub had : has_style f s other ≡ true
  pub apart : other ≡ st → ⊥
  pub first : (x : StyleKind) → has_style f s x ≡ true → (x ≡ st → ⊥) → is_lt (styles.cmp x other) ≡ false

pub record StylesInConflict : Type 0 where
  pub had : (f : Facts) (s : Session) (st : StyleKind) → (has_style f s st ≡ true) ↔ (IsResvIn f s st ⊎ IsWantIn f s st)
  pub some : (f : Facts) (s : Session) (st other : StyleKind) → (style_conflict f s st ≡ Some other) ↔ IsConflict f s st other
  pub none : (f : Facts) (s : Session) (st : StyleKind) → (style_conflict f s st ≡ None) ↔ ((x : StyleKind) → has_style f s x ≡ true → x ≡ st)

-- ---- who matches, and who is refused for want of a sender
pub record LossesByNames : Type 0 where
  pub matches : (p : NodeConfig) (f : Facts) (o : Asker) (x : Sender) → (has (matched p f o) x ≡ true) ↔ IsNamed o.style (known f o.session) (goes_out p o.session o.iface) x
  -- a wildcard filter of which nobody is left, with its names as they came
  pub wild : (names : Option Names) (all : Names) → lost Wild names all ≡ cond (is_none (names_that_match names all)) (as_listed names) Nobody
  -- of another filter the names that do not match, if there are some
  pub some : (st : StyleKind) (names all : Names) (x : Sender) → (st ≡ Wild → ⊥) → has names x ≡ true → has all x ≡ false
      → (rest : Names) × (lost st (Some names) all ≡ These rest) × ((y : Sender) → (has rest y ≡ true) ↔ ((has names y ≡ true) × (has all y ≡ false)))
  pub none : (st : StyleKind) (names all : Names) → (st ≡ Wild → ⊥) → ((x : Sender) → has names x ≡ true → has all x ≡ true) → lost st (Some names) all ≡ Nobody

-- ---- units one by one, with all that is done
-- the refusal of those who do not match goes before the unit is put in its place
abbrev pub told_before : NodeConfig → Asker → Names → Taking → AskedUnit → Taking
told_before p o all t u = tell_lost p o u.flow (lost o.style u.names all) t

-- the book's refusal of a unit
abbrev pub book_refusal : NodeConfig → Asker → Facts → Taking → AskedUnit → Part → Refused → ErrSend
book_refusal p o f t u part why = refusal p o (has_entry o f u.unit t.table) 1 (value_of why) (Some part.senders) part.flow

module _ (p : NodeConfig) (o : Asker) (f : Facts) (all : Names) where
  -- a unit of the list, and what was done before it
  pub record IsUnitAt (t : Taking) (us : List AskedUnit) (unit : AskedUnit) (before : Taking) : Type 0 where
    pub front : List AskedUnit
    pub back : List AskedUnit
    pub split : us ≡ front ++ unit ∷ back
    pub is : before ≡ take_units p o f all t front

  -- a unit that has a part and room, with what the book says to it
  pub record IsTried (t : Taking) (us : List AskedUnit) (unit : AskedUnit) (part : Part) (before : Taking) (why : Option Refused) : Type 0 where
    pub at : IsUnitAt t us unit before
    pub some : part_of (names_that_match unit.names all) unit.flow ≡ Some part
    pub room : has_room o unit.unit part before.table ≡ true
    pub says : book_refuses p o f unit.unit part before.table ≡ why

  -- the refusal of names that do not match
  pub record IsLoss (us : List AskedUnit) (e : ErrSend) : Type 0 where
    pub unit : AskedUnit
    pub asks : In unit us
    pub names : Option Names
    pub lost : lost o.style unit.names all ≡ as_listed names
    pub is : e ≡ refusal p o false 4 0 names unit.flow

  -- the refusal of a unit by the book
  pub record IsBookRefusal (t : Taking) (us : List AskedUnit) (e : ErrSend) : Type 0 where
    pub unit : AskedUnit
    pub part : Part
    pub before : Taking
    pub why : Refused
    pub tried : IsTried t us unit part before (Some why)
    pub is : e ≡ book_refusal p o f before unit part why

  -- a unit without room
  pub record IsLeftOut (t : Taking) (us : List AskedUnit) : Type 0 where
    pub unit : AskedUnit
    pub part : Part
    pub before : Taking
    pub at : IsUnitAt t us unit before
    pub some : part_of (names_that_match unit.names all) unit.flow ≡ Some part
    pub room : has_room o unit.unit part before.table ≡ false

  -- a unit that takes its place
  pub record IsTaken (t : Taking) (us : List AskedUnit) (u : UnitOf) (part : Part) : Type 0 where
    pub unit : AskedUnit
    pub before : Taking
    pub key : u ≡ unit.unit
    pub tried : IsTried t us unit part before None

pub record UnitsInFull : Type 0 where
  pub taken : (p : NodeConfig) (o : Asker) (f : Facts) (all : Names) (t : Taking) (u : AskedUnit) (part : Part)
      → part_of (names_that_match u.names all) u.flow ≡ Some part → has_room o u.unit part t.table ≡ true
      → book_refuses p o f u.unit part t.table ≡ None → take_unit p o f all t u ≡ record (told_before p o all t u) { table = table_with o u.unit part t.table; taken = put_in t.taken u.unit part }
  pub refused : (p : NodeConfig) (o : Asker) (f : Facts) (all : Names) (t : Taking) (u : AskedUnit) (part : Part) (why : Refused)
      → part_of (names_that_match u.names all) u.flow ≡ Some part → has_room o u.unit part t.table ≡ true
      → book_refuses p o f u.unit part t.table ≡ Some why
      → take_unit p o f all t u ≡ record (told_before p o all t u) {
        errors = (told_before p o all t u).errors
            ++ book_refusal p o f t u part why ∷ [];
      }
  pub left_out : (p : NodeConfig) (o : Asker) (f : Facts) (all : Names) (t : Taking) (u : AskedUnit) (part : Part)
      → part_of (names_that_match u.names all) u.flow ≡ Some part → has_room o u.unit part t.table ≡ false
      → take_unit p o f all t u ≡ record (told_before p o all t u) { left_out = true }
  pub nobody : (p : NodeConfig) (o : Asker) (f : Facts) (all : Names) (t : Taking) (u : AskedUnit)
      → part_of (names_that_match u.names all) u.flow ≡ None → take_unit p o f all t u ≡ told_before p o all t u
  -- one list after another
  pub after : (p : NodeConfig) (o : Asker) (f : Facts) (all : Names) (t : Taking) (us vs : List AskedUnit) → take_units p o f all t (us ++ vs) ≡ take_units p o f all (take_units p o f all t us) vs
  -- what is refused, and nothing else, is told
  pub errors : (p : NodeConfig) (o : Asker) (f : Facts) (all : Names) (t : Taking) (us : List AskedUnit) (e : ErrSend)
      → In e (take_units p o f all t us).errors ↔ (In e t.errors ⊎ (IsLoss p o f all us e ⊎ IsBookRefusal p o f all t us e))
  -- a unit was left out exactly where one had no room
  pub outs : (p : NodeConfig) (o : Asker) (f : Facts) (all : Names) (t : Taking) (us : List AskedUnit)
      → ((take_units p o f all t us).left_out ≡ true) ↔ ((t.left_out ≡ true) ⊎ IsLeftOut p o f all t us)
  -- and what counts as taken took its place
  pub takes : (p : NodeConfig) (o : Asker) (f : Facts) (all : Names) (t : Taking) (us : List AskedUnit) (u : UnitOf) (part : Part)
      → get (take_units p o f all t us).taken u ≡ Some part → (get t.taken u ≡ Some part) ⊎ IsTaken p o f all t us u part

-- ---- the Resv as a whole
pub record ResvsInSteps : Type 0 where
  -- no path: each unit is refused, and nothing changes
  pub no_path : (p : NodeConfig) (c e : ℕ) (m : ResvMsg) (f : Facts) → is_none (known f m.session) ≡ true
      → taking p c e m f ≡ refuse_all p (asker_of p c e m) 3 0 (asked_units m.ask) (resvs_of (ask_style m.ask) f)
  -- another style: the same
  pub conflict : (p : NodeConfig) (c e : ℕ) (m : ResvMsg) (f : Facts) (other : StyleKind) → is_none (known f m.session) ≡ false → style_conflict f m.session (ask_style m.ask) ≡ Some other
      → taking p c e m f ≡ refuse_all p (asker_of p c e m) 5 (style_value other) (asked_units m.ask) (resvs_of (ask_style m.ask) f)
  pub unchanged : (p : NodeConfig) (c e : ℕ) (m : ResvMsg) (f : Facts) (code value : ℕ)
      → taking p c e m f ≡ refuse_all p (asker_of p c e m) code value (asked_units m.ask) (resvs_of (ask_style m.ask) f)
      → (act_resv p c e m f).facts ≡ f
  -- else unit by unit
  pub by_units : (p : NodeConfig) (c e : ℕ) (m : ResvMsg) (f : Facts) → is_none (known f m.session) ≡ false → style_conflict f m.session (ask_style m.ask) ≡ None
      → taking p c e m f ≡ take_units p (asker_of p c e m) f (matched p f (asker_of p c e m)) (nothing_taken (resvs_of (ask_style m.ask) f) []) (asked_units m.ask)
  -- the reservations of its style are those that it leaves, and all else stays
  pub table : (p : NodeConfig) (c e : ℕ) (m : ResvMsg) (f : Facts) → resvs_of (ask_style m.ask) (act_resv p c e m f).facts ≡ (taking p c e m f).table
  pub others : (p : NodeConfig) (c e : ℕ) (m : ResvMsg) (f : Facts) (st : StyleKind) → (st ≡ ask_style m.ask → ⊥) → resvs_of st (act_resv p c e m f).facts ≡ resvs_of st f
  pub rest : (p : NodeConfig) (c e : ℕ) (m : ResvMsg) (f : Facts) → record (act_resv p c e m f).facts { resvs = f.resvs } ≡ f
  pub errors : (p : NodeConfig) (c e : ℕ) (m : ResvMsg) (f : Facts) → (act_resv p c e m f).errors ≡ (taking p c e m f).errors
  -- the first error is heard, else that a unit was left out
  pub told : (p : NodeConfig) (c e : ℕ) (m : ResvMsg) (f : Facts) (s : ErrSend) (ss : List ErrSend) → errors_in_order (taking p c e m f).errors ≡ s ∷ ss → (act_resv p c e m f).heard ≡ answered s.error
  pub full : (p : NodeConfig) (c e : ℕ) (m : ResvMsg) (f : Facts) → (taking p c e m f).errors ≡ [] → (taking p c e m f).left_out ≡ true → (act_resv p c e m f).heard ≡ heard.Dropped why.Full
  pub taken : (p : NodeConfig) (c e : ℕ) (m : ResvMsg) (f : Facts) → (taking p c e m f).errors ≡ [] → (taking p c e m f).left_out ≡ false → (act_resv p c e m f).heard ≡ heard.Taken
  -- a wish to be confirmed is of what was taken
  pub no_wish : (p : NodeConfig) (c e : ℕ) (m : ResvMsg) (f : Facts) → m.confirm ≡ None → (act_resv p c e m f).asked ≡ None
  pub wish : (p : NodeConfig) (c e : ℕ) (m : ResvMsg) (f : Facts) (a : Addr) → m.confirm ≡ Some a
      → (act_resv p c e m f).asked ≡ Some (record { session = m.session; confirm = a; iface = e; hop = m.hop.addr; taken = ask_of (ask_style m.ask) (taking p c e m f).taken })

-- ---- the units of a Resv, one by one
-- a reservation that a unit of the list made
pub record IsOfUnit (o : Asker) (all : Names) (us : List AskedUnit) (k : LineKey) (r : ResvState) : Type 0 where
  pub unit : AskedUnit
  pub asks : In unit us
  pub key : k ≡ key_at o unit.unit
  pub senders : r.part.senders ≡ names_that_match unit.names all
  pub flow : r.part.flow ≡ unit.flow
  pub named : has_name r.part ≡ true
  pub dies : r.dies ≡ o.dies

pub record UnitsOneByOne : Type 0 where
  -- a unit that has room and is not refused takes its place
  pub taken : (p : NodeConfig) (o : Asker) (f : Facts) (all : Names) (t : Taking) (u : AskedUnit) (part : Part)
      → part_of (names_that_match u.names all) u.flow ≡ Some part → has_room o u.unit part t.table ≡ true
      → book_refuses p o f u.unit part t.table ≡ None → (take_unit p o f all t u).table ≡ table_with o u.unit part t.table
  -- one that is refused, or left out, or has nobody, changes no reservation
  pub refused : (p : NodeConfig) (o : Asker) (f : Facts) (all : Names) (t : Taking) (u : AskedUnit) (part : Part) (why : Refused)
      → part_of (names_that_match u.names all) u.flow ≡ Some part → has_room o u.unit part t.table ≡ true
      → book_refuses p o f u.unit part t.table ≡ Some why → (take_unit p o f all t u).table ≡ t.table
  pub left_out : (p : NodeConfig) (o : Asker) (f : Facts) (all : Names) (t : Taking) (u : AskedUnit) (part : Part)
      → part_of (names_that_match u.names all) u.flow ≡ Some part → has_room o u.unit part t.table ≡ false
      → ((take_unit p o f all t u).table ≡ t.table) × ((take_unit p o f all t u).left_out ≡ true)
  pub nobody : (p : NodeConfig) (o : Asker) (f : Facts) (all : Names) (t : Taking) (u : AskedUnit) → part_of (names_that_match u.names all) u.flow ≡ None → (take_unit p o f all t u).table ≡ t.table
  -- its place is that of its next hop and unit, and no other reservation changes
  pub at : (o : Asker) (u : UnitOf) (part : Part) (t : Resvs) → get (table_with o u part t) (key_at o u) ≡ Some (resv_state o part (get t (key_at o u)))
  pub beside : (o : Asker) (u : UnitOf) (part : Part) (t : Resvs) (k : LineKey) → (k ≡ key_at o u → ⊥) → get (table_with o u part t) k ≡ get t k
  -- so what stands after all of them stood before, or is of one of them
  pub source : (p : NodeConfig) (o : Asker) (f : Facts) (all : Names) (us : List AskedUnit) (t : Taking) (k : LineKey) (r : ResvState)
      → get (take_units p o f all t us).table k ≡ Some r → (get t.table k ≡ Some r) ⊎ IsOfUnit o all us k r
  pub others : (p : NodeConfig) (o : Asker) (f : Facts) (all : Names) (us : List AskedUnit) (t : Taking) (k : LineKey)
      → ((u : AskedUnit) → In u us → k ≡ key_at o u.unit → ⊥) → get (take_units p o f all t us).table k ≡ get t.table k
  -- and a refusal that was made stays made
  pub errors : (p : NodeConfig) (o : Asker) (f : Facts) (all : Names) (us : List AskedUnit) (t : Taking) (e : ErrSend) → In e t.errors → In e (take_units p o f all t us).errors
