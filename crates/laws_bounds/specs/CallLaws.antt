-- What local calls, left-over facts and a clear do, and what follows where no fact changes: the claims of the public laws.
use Rattle.std.specs.Prelude.{◌≡◌, ℕ, ◌+◌, ◌<◌, ◌≤◌, ◌⊎◌, ◌↔◌, true, false, Bool, List, [], ◌++◌, Some, None}
use Rattle.admission_book.specs.declared.refused.Refused.{Refused}
use Rattle.rsvp_base.specs.declared.session.Sender.{Sender}
use Rattle.rsvp_base.specs.declared.session.Session.{Session}
use Rattle.rsvp_base.specs.declared.style.StyleKind.{StyleKind}
use Rattle.rsvp_base.specs.declared.style.Unit.{Unit as UnitOf}
use Rattle.rsvp_base.specs.Members.{In}
use Rattle.rsvp_base.specs.Orders.{Names, senders, units}
use Rattle.rsvp_base.specs.SessionLimits.{has_room_at}
use Rattle.rsvp_base.specs.Table.{changed, get, has, put_in, size, with_rows}
use Rattle.rsvp_base.specs.TokenBucket.{TokenBucket}
use Rattle.router_rules.specs.Lines.{LineKey}
use Rattle.router_rules.specs.declared.answers.Heard.{Heard}
use Rattle.router_rules.specs.declared.answers.Heard.TheVariants as heard
use Rattle.router_rules.specs.declared.answers.LocalErr.{LocalErr}
use Rattle.router_rules.specs.declared.answers.LocalErr.TheVariants as local
use Rattle.router_rules.specs.declared.answers.StaleErr.{StaleErr}
use Rattle.router_rules.specs.declared.answers.StaleErr.TheVariants as stale
use Rattle.router_rules.specs.Act.{act}
use Rattle.router_rules.specs.Books.{book, fits, refused as refused_entry}
use Rattle.router_rules.specs.Bounds.{IsWithinBounds}
use Rattle.router_rules.specs.Calls.{act_call, act_stale, advertised_with, call_refusal, entry_of, senders_with, stale_refusal, wanted, wants_with, with_left}
use Rattle.router_rules.specs.Facts.{Blockade, Facts, PathState, ResvState, SenderKey, Want, WantKey, Wants, no_facts, resvs_of, with_resvs}
use Rattle.router_rules.specs.Targets.{WallKey}
use Rattle.router_rules.specs.Forgetting.{counted}
use Rattle.router_rules.specs.Inputs.{AdvertAs, Call, Clear, ConfSend, DropAs, ErrSend, Input, Local, QuitAll, SendAs, Stale, StalePath, StaleResv, StaleWall, WantAs, only_heard}
use Rattle.router_rules.specs.NodeConfig.{NodeConfig, is_own, period}
use Rattle.router_rules.specs.Rule.{is_silent, rule, settled}
use Rattle.router_rules.specs.Sends.{conf_sends, error_sends}

-- ---- an input that changes no fact of a node leaves the node as it was, and sends its errors and confirmations alone
pub record StepsWithoutChange : Type 0 where
  pub settled_same : (p : NodeConfig) (c : ℕ) (f : Facts) → IsWithinBounds p c f → settled p c f f ≡ f
  pub whole : (p : NodeConfig) (c : ℕ) (i : Input) (f : Facts) (h : Heard) (es : List ErrSend) (cs : List ConfSend) → IsWithinBounds p c f
      → is_silent i ≡ false → act p c i f ≡ record (only_heard h f) { errors = es; confs = cs }
      → rule p p c i f ≡ record { facts = f; sent = error_sends es ++ conf_sends cs; heard = h }

-- ---- local calls
-- a local want of the session has another style
pub record HasOtherStyle (f : Facts) (s : Session) (st : StyleKind) : Type 0 where
  pub unit : UnitOf
  pub want : Want
  pub there : get f.wants (s, unit) ≡ Some want
  pub other : want.style ≡ st → ⊥

-- the test of room that a call makes
abbrev pub room_for : Facts → SenderKey → TokenBucket → Bool
room_for f k tspec = has_room_at senders (put_in f.senders k tspec) k.0

abbrev pub room_for_wants : Facts → Session → StyleKind → Names → TokenBucket → Bool → Bool
room_for_wants f s st names flow mark = has_room_at units (with_rows f.wants (wanted s st names flow mark)) s

-- when each call is refused
pub record CallRefusals : Type 0 where
  pub not_mine : (p : NodeConfig) (f : Facts) (s : Session) (x : Sender) (tspec : TokenBucket) → (call_refusal p (SendAs s x tspec) f ≡ Some local.NotMine) ↔ (is_own p x.addr ≡ false)
  pub send_full : (p : NodeConfig) (f : Facts) (s : Session) (x : Sender) (tspec : TokenBucket)
      → (call_refusal p (SendAs s x tspec) f ≡ Some local.Full) ↔ ((is_own p x.addr ≡ true) × (room_for f (s, x) tspec ≡ false))
  pub sends : (p : NodeConfig) (f : Facts) (s : Session) (x : Sender) (tspec : TokenBucket) → (call_refusal p (SendAs s x tspec) f ≡ None)
      ↔ ((is_own p x.addr ≡ true) × (room_for f (s, x) tspec ≡ true))
  pub no_sender : (p : NodeConfig) (f : Facts) (s : Session) (x : Sender) → (call_refusal p (DropAs s x) f ≡ Some local.Absent) ↔ (has f.senders (s, x) ≡ false)
  pub drops : (p : NodeConfig) (f : Facts) (s : Session) (x : Sender) → (call_refusal p (DropAs s x) f ≡ None) ↔ (has f.senders (s, x) ≡ true)
  pub nothing_to_advertise : (p : NodeConfig) (f : Facts) (s : Session) (x : Sender) → (call_refusal p (AdvertAs s x) f ≡ Some local.Absent) ↔ (has f.senders (s, x) ≡ false)
  pub advertises : (p : NodeConfig) (f : Facts) (s : Session) (x : Sender) → (call_refusal p (AdvertAs s x) f ≡ None) ↔ (has f.senders (s, x) ≡ true)
  pub style : (p : NodeConfig) (f : Facts) (s : Session) (st : StyleKind) (names : Names) (flow : TokenBucket) (mark : Bool)
      → (call_refusal p (WantAs s st names flow mark) f ≡ Some local.Style) ↔ HasOtherStyle f s st
  pub want_full : (p : NodeConfig) (f : Facts) (s : Session) (st : StyleKind) (names : Names) (flow : TokenBucket) (mark : Bool)
      → (call_refusal p (WantAs s st names flow mark) f ≡ Some local.Full) ↔ ((HasOtherStyle f s st → ⊥) × (room_for_wants f s st names flow mark ≡ false))
  pub wants : (p : NodeConfig) (f : Facts) (s : Session) (st : StyleKind) (names : Names) (flow : TokenBucket) (mark : Bool)
      → (call_refusal p (WantAs s st names flow mark) f ≡ None) ↔ ((HasOtherStyle f s st → ⊥) × (room_for_wants f s st names flow mark ≡ true))
  pub no_want : (p : NodeConfig) (f : Facts) (s : Session) → (call_refusal p (QuitAll s) f ≡ Some local.Absent) ↔ ((u : UnitOf) → has f.wants (s, u) ≡ false)
  pub quits : (p : NodeConfig) (f : Facts) (s : Session) → (call_refusal p (QuitAll s) f ≡ None) ↔ ((u : UnitOf) × (has f.wants (s, u) ≡ true))

-- what each call leaves
pub record CallsLeave : Type 0 where
  pub made : (p : NodeConfig) (l : Local) (f : Facts) → call_refusal p l f ≡ None
      → act_call p l f
      ≡ only_heard heard.Taken (record f { senders = senders_with l f.senders; advertised = advertised_with l f.advertised; wants = wants_with l f.wants })
  pub refused : (p : NodeConfig) (l : Local) (f : Facts) (why : LocalErr) → call_refusal p l f ≡ Some why → act_call p l f ≡ only_heard heard.Taken f
  -- a refused call changes nothing of a node, and sends nothing
  pub quiet : (p : NodeConfig) (c : ℕ) (l : Local) (f : Facts) (why : LocalErr) → IsWithinBounds p c f → call_refusal p l f ≡ Some why
      → rule p p c (Call l) f ≡ record { facts = f; sent = []; heard = heard.Taken }
  -- the wants of a call, under their keys; other wants stay
  pub wanted_there : (s : Session) (st : StyleKind) (names : Names) (flow : TokenBucket) (mark : Bool) (t : Wants) (k : WantKey) (w : Want)
      → In (k, w) (wanted s st names flow mark) → get (wants_with (WantAs s st names flow mark) t) k ≡ Some w
  pub wanted_source : (s : Session) (st : StyleKind) (names : Names) (flow : TokenBucket) (mark : Bool) (t : Wants) (k : WantKey) (w : Want)
      → get (wants_with (WantAs s st names flow mark) t) k ≡ Some w
      → (get t k ≡ Some w) ⊎ In (k, w) (wanted s st names flow mark)
  pub wanted_beside : (s : Session) (st : StyleKind) (names : Names) (flow : TokenBucket) (mark : Bool) (t : Wants) (k : WantKey)
      → ((w : Want) → In (k, w) (wanted s st names flow mark) → ⊥) → get (wants_with (WantAs s st names flow mark) t) k ≡ get t k
  -- without those of its session
  pub quit : (s : Session) (t : Wants) (u : UnitOf) → get (wants_with (QuitAll s) t) (s, u) ≡ None
  pub quit_beside : (s : Session) (t : Wants) (k : WantKey) → (k.0 ≡ s → ⊥) → get (wants_with (QuitAll s) t) k ≡ get t k

-- ---- left-over facts
-- why the book of its interface refuses a left-over reservation
abbrev pub StaleOver : NodeConfig → Facts → StyleKind → LineKey → ResvState → Type 0
StaleOver p f st k r = (why : Refused) × (refused_entry p k.1.0.0 (entry_of st k) (book (with_resvs st (put_in (resvs_of st f) k r) f) k.1.0.0) ≡ Some why)

pub record StaleRefusals : Type 0 where
  pub path_full : (p : NodeConfig) (f : Facts) (k : SenderKey) (x : PathState) → (stale_refusal p (StalePath k x) f ≡ Some stale.Full) ↔ (has_room_at senders (put_in f.paths k x) k.0 ≡ false)
  pub path : (p : NodeConfig) (f : Facts) (k : SenderKey) (x : PathState) → (stale_refusal p (StalePath k x) f ≡ None) ↔ (has_room_at senders (put_in f.paths k x) k.0 ≡ true)
  pub resv_full : (p : NodeConfig) (f : Facts) (st : StyleKind) (k : LineKey) (r : ResvState)
      → (stale_refusal p (StaleResv st k r) f ≡ Some stale.Full) ↔ (fits st (put_in (resvs_of st f) k r) ≡ false)
  pub over : (p : NodeConfig) (f : Facts) (st : StyleKind) (k : LineKey) (r : ResvState) → (stale_refusal p (StaleResv st k r) f ≡ Some stale.Over)
      ↔ ((fits st (put_in (resvs_of st f) k r) ≡ true) × StaleOver p f st k r)
  pub resv : (p : NodeConfig) (f : Facts) (st : StyleKind) (k : LineKey) (r : ResvState) → (stale_refusal p (StaleResv st k r) f ≡ None)
      ↔ ((fits st (put_in (resvs_of st f) k r) ≡ true) × (StaleOver p f st k r → ⊥))
  pub wall_full : (p : NodeConfig) (f : Facts) (k : WallKey) (b : Blockade) → (stale_refusal p (StaleWall k b) f ≡ Some stale.Full) ↔ (512 < size (put_in f.walls k b))
  pub wall : (p : NodeConfig) (f : Facts) (k : WallKey) (b : Blockade) → (stale_refusal p (StaleWall k b) f ≡ None) ↔ (size (put_in f.walls k b) ≤ 512)

pub record StaleLeaves : Type 0 where
  pub made : (p : NodeConfig) (i : Stale) (f : Facts) → stale_refusal p i f ≡ None → act_stale p i f ≡ with_left i f
  pub refused : (p : NodeConfig) (i : Stale) (f : Facts) (why : StaleErr) → stale_refusal p i f ≡ Some why → act_stale p i f ≡ f
  -- a refused one changes nothing of a node
  pub quiet : (p : NodeConfig) (c : ℕ) (i : Stale) (f : Facts) (why : StaleErr) → IsWithinBounds p c f → stale_refusal p i f ≡ Some why → settled p c f (act_stale p i f) ≡ f

-- ---- clear: local senders and wants alone stay, and their sessions begin a new period; nothing is sent
abbrev pub cleared : NodeConfig → ℕ → Facts → Facts
cleared p c f = record no_facts { senders = f.senders; advertised = f.advertised; wants = f.wants; due = changed (λ s u. Some (c + period p)) (counted (record no_facts { senders = f.senders })) }

abbrev pub ClearLeaves : Type 0
ClearLeaves = (old p : NodeConfig) (c : ℕ) (f : Facts) → rule old p c Clear f ≡ record { facts = cleared p c f; sent = []; heard = heard.Taken }
