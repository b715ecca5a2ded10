-- What the lanes of a session are told, each of what was said to it before.
use Rattle.std.specs.Prelude.{◌≡◌, ℕ, nat_lt, Bool, true, cond, List, map as each, Option, Some, None}
use Rattle.path_state.specs.Paths.{via}
use Rattle.rsvp_base.specs.Sets.{is_none}
use Rattle.rsvp_base.specs.Table.{empty, get, size}
use Rattle.rsvp_base.specs.declared.addr.Addr.{Addr}
use Rattle.rsvp_base.specs.declared.session.Session.{Session}
use Rattle.rsvp_base.specs.declared.style.StyleKind.{StyleKind}
use Rattle.rsvp_messages.specs.declared.ask.Ask.{Ask}
use Rattle.style_rules.specs.Lines.{NextHop}
use Rattle.style_rules.specs.Merge.{PartTable}
use Rattle.router_rules.specs.Asking.{ask_of}
use Rattle.router_rules.specs.Inputs.{Send}
use Rattle.router_rules.specs.Known.{Lane}
use Rattle.router_rules.specs.Requests.{toward}
use Rattle.laws_sends.specs.State.{Said, State, facts_of, said_at}
use Rattle.laws_sends.specs.Saying.{SessionLane, ask_seen, lane_by, told_ask, told_at, told_seen, torn_seen}
use Rattle.router_state.specs.declared.tables.Tables.{Tables}

-- the lanes of a style toward these hops
abbrev pub lanes_of : StyleKind → List NextHop → List SessionLane
lanes_of st hops = each (λ hop. (st, hop)) hops

abbrev pub torn_by : ℕ → State → Said → Session → SessionLane → List Send
torn_by c n said s e = torn_seen c n (lane_by s e) (said_at said (lane_by s e))

abbrev pub told_by : ℕ → State → Option Addr → Bool → Said → Session → SessionLane → List Send
told_by c n asked due said s e = told_seen c n (lane_by s e) asked due (said_at said (lane_by s e))

-- the Resv of a lane that asks for this, where it is new or due
unfoldable pub told_parts : ℕ → State → Lane → Option Addr → Bool → Bool → Option Ask → List Send
told_parts c n l asked new due a = told_ask n.place (facts_of c n) l asked new due a

-- the Resv of a lane that is due, of what was said there, and asks nobody to confirm
abbrev pub renewed_seen : ℕ → State → Lane → PartTable → List Send
renewed_seen c n l was = ask_seen c n l None true (ask_of l.style was)

abbrev pub renewed_by : ℕ → State → Said → Session → SessionLane → List Send
renewed_by c n said s e = renewed_seen c n (lane_by s e) (said_at said (lane_by s e))

-- what was said to each lane of a session is what goes there
abbrev pub IsStill : State → Session → Said → Type 0
IsStill n s said = (c : ℕ) (e : SessionLane) → said_at said (lane_by s e) ≡ toward n.place (facts_of c n) (lane_by s e)

-- of nothing nothing is kept
abbrev pub IsFull : Said → Type 0
IsFull said = (l : Lane) (t : PartTable) → get said l ≡ Some t → nat_lt 0 (size t) ≡ true

-- what is kept of a lane, and nothing where no path comes from its hop
abbrev pub cleared_of : Tables → Said → Session → SessionLane → Said
cleared_of t said s e = cond (is_none (via t.paths.facts s e.1.0 e.1.1)) (told_at said (lane_by s e) empty) said
