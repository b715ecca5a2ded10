-- Marks, and whom a Resv asks to confirm, as the tables are seen at a clock.
use Rattle.std.specs.Prelude.{◌≡◌, ℕ, Bool, true, List, map as each, Option}
use Rattle.rsvp_base.specs.Orders.{sessions, units}
use Rattle.rsvp_base.specs.Sets.{Set}
use Rattle.rsvp_base.specs.Table.{has}
use Rattle.rsvp_base.specs.Under.{under}
use Rattle.rsvp_base.specs.declared.addr.Addr.{Addr}
use Rattle.rsvp_base.specs.declared.session.Session.{Session}
use Rattle.rsvp_base.specs.declared.style.StyleKind.{StyleKind}
use Rattle.rsvp_base.specs.declared.style.Unit.{Unit as UnitOf}
use Rattle.style_rules.specs.Lines.{NextHop}
use Rattle.style_rules.specs.Merge.{PartTable}
use Rattle.router_rules.specs.Known.{Lane}
use Rattle.router_rules.specs.Sends.{marked_units, own_wish}
use Rattle.laws_sends.specs.State.{Said, State, facts_of, said_at}
use Rattle.laws_sends.specs.Saying.{SessionLane, lane_by}
use Rattle.router_state.specs.declared.tables.Tables.{Tables}
use Rattle.laws_sends.specs.Marks.{is_new_lane, used_in}
use Rattle.resv_sends.specs.Units.{UnitSet}

-- the local wants of a lane that are to be confirmed and take part
unfoldable pub marked_seen : ℕ → State → Lane → List UnitOf
marked_seen c n l = marked_units n.place (facts_of c n) l

-- whom a Resv of a lane asks to confirm
unfoldable pub wish_seen : ℕ → State → Lane → Option Addr
wish_seen c n l = own_wish n.place l (marked_units n.place (facts_of c n) l)

-- a Resv is sent to a lane for a change, of what was said there
unfoldable pub new_seen : ℕ → State → Lane → PartTable → Bool
new_seen c n l was = is_new_lane n.place (facts_of c n) l was

-- the marks that are used by the Resvs of these lanes
unfoldable pub used_seen : ℕ → State → Session → Said → List SessionLane → Set units
used_seen c n s said es = used_in n.place (facts_of c n) s said es

abbrev pub new_by : ℕ → State → Said → Session → SessionLane → Bool
new_by c n said s e = new_seen c n (lane_by s e) (said_at said (lane_by s e))

-- the lanes of a style toward these hops
abbrev pub lanes_in : StyleKind → List NextHop → List SessionLane
lanes_in st hops = each (λ hop. (st, hop)) hops

-- each is the unit of a want of the session
abbrev pub AreWanted : Tables → Session → UnitSet → Type 0
AreWanted t s us = (u : UnitOf) → has us u ≡ true → has (under sessions units t.wants s) u ≡ true
