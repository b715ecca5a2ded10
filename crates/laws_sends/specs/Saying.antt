-- What a node tells of one lane, and what it keeps of that.
use Rattle.std.specs.Prelude.{◌≡◌, ℕ, nat_lt, Bool, true, false, cond, not, ◌⊎◌, List, [], ◌∷◌, Option, Some, None}
use Rattle.rsvp_base.specs.Members.{In}
use Rattle.rsvp_base.specs.Orders.{Names}
use Rattle.rsvp_base.specs.Sets.{cut, is_none}
use Rattle.rsvp_base.specs.Table.{empty, get, has, put_in, size, without}
use Rattle.rsvp_base.specs.declared.addr.Addr.{Addr}
use Rattle.rsvp_base.specs.declared.session.Session.{Session}
use Rattle.rsvp_base.specs.declared.style.StyleKind.{StyleKind}
use Rattle.router_state.specs.RsvpMessages.declared.ask.Ask.{Ask}
use Rattle.router_state.specs.StyleRules.Lines.{NextHop}
use Rattle.router_state.specs.StyleRules.Merge.{PartTable}
use Rattle.router_state.specs.RouterRules.Asking.{ask_of}
use Rattle.router_state.specs.RouterRules.Facts.{Facts}
use Rattle.router_state.specs.RouterRules.Inputs.{Send}
use Rattle.router_state.specs.RouterRules.Known.{Lane, lanes, names_via}
use Rattle.router_state.specs.RouterRules.NodeConfig.{NodeConfig}
use Rattle.router_state.specs.RouterRules.Requests.{toward}
use Rattle.router_state.specs.RouterRules.Sends.{gone_names, marked_units, own_wish, resv_send, resv_tear_send, same_parts}
use Rattle.router_state.specs.State.{Said, State, facts_of, said_at}

-- ---- what is kept: what went toward each hop, where something did
abbrev pub told_at : Said → Lane → PartTable → Said
told_at m l v = cond (nat_lt 0 (size v)) (put_in m l v) (without m l)

-- ---- a ResvTear, of what went there before
abbrev pub torn_of : PartTable → PartTable → Names → Names
torn_of was now among = cut (gone_names was now) among

abbrev pub torn_lane : NodeConfig → Facts → Lane → PartTable → List Send
torn_lane p g l was = cond (is_none (torn_of was (toward p g l) (names_via g l))) [] (resv_tear_send p g l (torn_of was (toward p g l) (names_via g l)) ∷ [])

-- ---- a Resv, where it changed or is due
-- whom one that is told for a change asks to confirm: whom the message that made the change says, if it says someone, else the
-- node where a marked want takes part
abbrev pub wish_of : NodeConfig → Facts → Lane → Option Addr → Option Addr
wish_of p g l None = own_wish p l (marked_units p g l)
wish_of p g l (Some a) = Some a

abbrev pub told_ask : NodeConfig → Facts → Lane → Option Addr → Bool → Bool → Option Ask → List Send
told_ask p g l asked new due None = []
told_ask p g l asked true due (Some ask) = resv_send p g l (wish_of p g l asked) due ask ∷ []
told_ask p g l asked false true (Some ask) = resv_send p g l None true ask ∷ []
told_ask p g l asked false false (Some ask) = []

abbrev pub told_lane : NodeConfig → Facts → Lane → Option Addr → Bool → PartTable → List Send
told_lane p g l asked due was = told_ask p g l asked (not (same_parts was (toward p g l))) due (ask_of l.style (toward p g l))

-- ---- as the tables are seen at a clock
unfoldable pub torn_seen : ℕ → State → Lane → PartTable → List Send
torn_seen c m l was = torn_lane m.place (facts_of c m) l was

unfoldable pub told_seen : ℕ → State → Lane → Option Addr → Bool → PartTable → List Send
told_seen c m l asked due was = told_lane m.place (facts_of c m) l asked due was

unfoldable pub wish_seen : ℕ → State → Lane → Option Addr → Option Addr
wish_seen c m l asked = wish_of m.place (facts_of c m) l asked

-- ---- several lanes of one session, one after another
abbrev pub SessionLane : Type 0
SessionLane = StyleKind × NextHop

abbrev pub lane_by : Session → SessionLane → Lane
lane_by s e = record { session = s; style = e.0; hop = e.1 }

-- these are the session's lanes
pub record AreLanesOf (f : Facts) (s : Session) (es : List SessionLane) : Type 0 where
  pub all : (l : Lane) → has (lanes f) l ≡ true → l.session ≡ s → (e : SessionLane) × In e es × (l ≡ lane_by s e)
  pub only : (e : SessionLane) → In e es → has (lanes f) (lane_by s e) ≡ true

-- what is kept once lanes from which no path comes any more are cleared
pub record IsCleared (m : State) (s : Session) (es : List SessionLane) (said : Said) : Type 0 where
  pub at : (c : ℕ) (l : Lane) → (said_at said l ≡ said_at m.said l) ⊎ ((said_at said l ≡ empty) × (has (lanes (facts_of c m)) l ≡ false))
  pub gone : (c : ℕ) (e : SessionLane) → In e es → has (lanes (facts_of c m)) (lane_by s e) ≡ false → said_at said (lane_by s e) ≡ empty
  pub some : (l : Lane) (t : PartTable) → get said l ≡ Some t → nat_lt 0 (size t) ≡ true

-- what is kept once these lanes are told what goes there now
pub record IsTold (m : State) (s : Session) (es : List SessionLane) (said : Said) : Type 0 where
  pub here : (c : ℕ) (e : SessionLane) → In e es → said_at said (lane_by s e) ≡ toward m.place (facts_of c m) (lane_by s e)
  pub rest : (l : Lane) → ((e : SessionLane) → In e es → l ≡ lane_by s e → ⊥) → said_at said l ≡ said_at m.said l

-- of nothing nothing is kept, and nothing where no path comes from
pub record IsRoomy (m : State) (said : Said) : Type 0 where
  pub some : (l : Lane) (t : PartTable) → get said l ≡ Some t → nat_lt 0 (size t) ≡ true
  pub within : (c : ℕ) (l : Lane) → has said l ≡ true → has (lanes (facts_of c m)) l ≡ true

-- a Resv of what is asked for there, if something is, with whom it asks to confirm
abbrev pub asked_there : NodeConfig → Facts → Lane → Option Addr → Bool → Option Ask → List Send
asked_there p g l wish due None = []
asked_there p g l wish due (Some ask) = resv_send p g l wish due ask ∷ []

unfoldable pub ask_seen : ℕ → State → Lane → Option Addr → Bool → Option Ask → List Send
ask_seen c m l wish due a = asked_there m.place (facts_of c m) l wish due a
