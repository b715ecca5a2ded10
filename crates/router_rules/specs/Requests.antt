-- What is asked for toward a previous hop (RFC 2205, 2.2 and 3.5; RFC 2209, 2: RESV REFRESH): reservations and local wants,
-- each cut to the senders whose Paths come from there, and blockaded or not; and their merge.
use Rattle.std.specs.Prelude.{Bool, cond, ◌++◌, List, Option, Some, None}
use Rattle.std.specs.List.{list_any, filter_map}
use Rattle.std.specs.Option.{option_map}
use Rattle.std.specs.Ordering.{eq_by_cmp}
use Rattle.rsvp_base.specs.declared.part.Part.{Part}
use Rattle.rsvp_base.specs.declared.style.StyleKind.{StyleKind}
use Rattle.rsvp_base.specs.declared.style.StyleKind.TheVariants.{Wild, Fixed, Shared}
use Rattle.rsvp_base.specs.declared.style.Unit.{Unit as UnitOf}
use Rattle.rsvp_base.specs.Orders.{styles, Names}
use Rattle.rsvp_base.specs.Table.{get, keys}
use Rattle.rsvp_base.specs.TokenBucket.{TokenBucket}
use Rattle.style_rules.specs.declared.wall.Wall.{Wall}
use Rattle.style_rules.specs.Lines.{NextHop}
use Rattle.style_rules.specs.Merge.{PartTable}
use Rattle.style_rules.specs.Parts.{part_of, part_cut}
use Rattle.style_rules.specs.Toward.{Request, is_walled, toward as merged_toward}
use Rattle.style_rules.specs.declared.target.Target.TheVariants as target
use Rattle.router_rules.specs.Facts.{Facts, ResvState, Want, Blockade, Walls, resvs_in, wants_in}
use Rattle.style_rules.specs.Targets.{WallKey}
use Rattle.router_rules.specs.Known.{Lane, names_via, names_via_where}
use Rattle.router_rules.specs.NodeConfig.{NodeConfig, goes_out}

abbrev pub is_style : StyleKind → StyleKind → Bool
is_style a b = eq_by_cmp styles.cmp a b

-- ---- blockaded
abbrev pub wall_at : Walls → WallKey → Option Wall
wall_at w k = option_map (λ (b : Blockade). b.wall) (get w k)

abbrev pub is_hop_walled : Walls → Lane → TokenBucket → Bool
is_hop_walled w l asked = is_walled asked (wall_at w (l.session, target.Hop l.hop.0 l.hop.1))

abbrev pub is_sender_walled : Walls → Lane → Part → Bool
is_sender_walled w l p = list_any (λ s. is_walled p.flow (wall_at w (l.session, target.Sender s))) (keys p.senders)

-- a wildcard request by the blockade of the hop, another by that of any sender that it has there
abbrev pub is_blockaded : StyleKind → Walls → Lane → Part → Bool
is_blockaded Wild w l p = is_hop_walled w l p.flow
is_blockaded Fixed w l p = is_sender_walled w l p
is_blockaded Shared w l p = is_sender_walled w l p

-- ---- requests
-- what is left of a part toward a hop, if someone is
abbrev pub request_of : Walls → Lane → Option Part → Option Request
request_of w l None = None
request_of w l (Some p) = Some (record { part = p; blockaded = is_blockaded l.style w l p })

-- a wildcard want stands for all names via the hop, another one is cut to them
abbrev pub want_part : StyleKind → Names → Part → Option Part
want_part Wild names w = part_of names w.flow
want_part Fixed names w = part_cut w names
want_part Shared names w = part_cut w names

abbrev pub want_request : Facts → Lane → UnitOf × Want → Option Request
want_request f l e = cond (is_style e.1.style l.style) (request_of f.walls l (want_part l.style (names_via f l) e.1.part)) None

module _ (p : NodeConfig) (f : Facts) (l : Lane) where
  -- a reservation, cut to the names via the hop whose tree goes out of the reservation's interface
  abbrev pub resv_part : (NextHop × UnitOf) × ResvState → Option Part
  resv_part e = part_cut e.1.part (names_via_where f l (goes_out p l.session e.0.0.0))

  abbrev pub resv_request : (NextHop × UnitOf) × ResvState → Option Request
  resv_request e = request_of f.walls l (resv_part e)

  abbrev pub requests : List Request
  requests = filter_map resv_request (resvs_in l.style f l.session).rows ++ filter_map (want_request f l) (wants_in f l.session).rows

  -- ---- toward
  -- of each unit the join of the requests that are not blockaded, or the meet of all where all are
  abbrev pub toward : PartTable
  toward = merged_toward l.style requests
