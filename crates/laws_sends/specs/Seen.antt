-- What goes toward a previous hop, as the tables are seen at a clock.
use Rattle.std.specs.Prelude.{ℕ, List, map as each, Some, Option}
use Rattle.rsvp_base.specs.declared.session.Session.{Session}
use Rattle.rsvp_base.specs.declared.hop.Hop.{Hop}
use Rattle.rsvp_base.specs.declared.style.StyleKind.{StyleKind}
use Rattle.rsvp_base.specs.declared.style.StyleKind.TheVariants.{Wild}
use Rattle.router_state.specs.StyleRules.Lines.{NextHop}
use Rattle.router_state.specs.StyleRules.Merge.{PartTable}
use Rattle.router_state.specs.StyleRules.Ways.{WayTable, Way}
use Rattle.router_state.specs.RouterRules.Known.{Lane, names_via}
use Rattle.router_state.specs.RouterRules.Sends.{hop_to}
use Rattle.router_state.specs.RouterRules.Requests.{toward}
use Rattle.router_state.specs.State.{State, facts_of}
use Rattle.laws_sends.specs.Upward.{own_for, up_for, wall_for, way_for}
use Rattle.rsvp_base.specs.Orders.{Names, senders}
use Rattle.rsvp_base.specs.Sets.{set_of}
use Rattle.rsvp_base.specs.Table.{changed}
use Rattle.rsvp_base.specs.Styles.{name_of}
use Rattle.rsvp_base.specs.declared.session.Sender.{Sender}
use Rattle.router_state.specs.StyleRules.declared.wall.Wall.{Wall}

abbrev pub lane_of : Session → StyleKind → NextHop → Lane
lane_of s st hop = record { session = s; style = st; hop = hop }

unfoldable pub up_at : ℕ → State → Session → StyleKind → NextHop → WayTable
up_at c n s st hop = up_for n.place (facts_of c n) (lane_of s st hop)

unfoldable pub own_at : ℕ → State → Session → StyleKind → NextHop → PartTable
own_at c n s st hop = own_for (facts_of c n) (lane_of s st hop)

unfoldable pub toward_at : ℕ → State → Session → StyleKind → NextHop → PartTable
toward_at c n s st hop = toward n.place (facts_of c n) (lane_of s st hop)

unfoldable pub wall_seen : ℕ → State → Session → StyleKind → NextHop → Sender → Option Wall
wall_seen c n s st hop x = wall_for st (facts_of c n).walls (lane_of s st hop) x

unfoldable pub way_seen : ℕ → State → Session → StyleKind → NextHop → Sender → Way
way_seen c n s st hop x = way_for n.place (facts_of c n) (lane_of s st hop) x

-- the ways of the names of these senders
unfoldable pub ways_seen : ℕ → State → Session → StyleKind → NextHop → List Sender → WayTable
ways_seen c n s st hop xs = changed (λ x _. Some (way_for n.place (facts_of c n) (lane_of s st hop) x)) (set_of {o = senders} (each (name_of st) xs))

-- the names via a hop, in a style
unfoldable pub names_seen : ℕ → State → Session → StyleKind → NextHop → Names
names_seen c n s st hop = names_via (facts_of c n) (lane_of s st hop)

-- the RSVP_HOP of what goes there, the same for all styles
unfoldable pub hop_seen : ℕ → State → Session → NextHop → Hop
hop_seen c n s hop = hop_to n.place (facts_of c n) (lane_of s Wild hop)
