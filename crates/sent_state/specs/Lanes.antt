-- What each lane was last sent.
use Rattle.std.specs.Prelude.{ℕ, nat_lt, cond, List, [], ◌∷◌, map as each, Option, Some, refl}
use Rattle.std.specs.Coded.{Coded, coded×, coded_ℕ, code_by}
use Rattle.std.specs.Option.{unwrap_or}
use Rattle.std.specs.FinMap.Entries.{below_all, is_sorted}
use Rattle.std.proofs.Common.{T}
use Rattle.rsvp_base.specs.Codes.{part_code, unit_code}
use Rattle.rsvp_base.specs.Keys.{Keys, pairs}
use Rattle.rsvp_base.specs.Orders.{sessions, styles, units, addr_code}
use Rattle.rsvp_base.specs.Table.{Table, both, empty, first, get, put_in, second, size, without, table_code}
use Rattle.rsvp_base.specs.contracts.session.Session as session
use Rattle.rsvp_base.specs.contracts.style.StyleKind as style
use Rattle.rsvp_base.specs.declared.session.Session.{Session}
use Rattle.rsvp_base.specs.declared.style.StyleKind.{StyleKind}
use Rattle.style_rules.specs.Lines.{NextHop, next_hops}
use Rattle.style_rules.specs.Merge.{PartTable}
use Rattle.router_rules.specs.Known.{Lane, lane_keys}
use Rattle.sent_state.specs.declared.lane.Sent.{Sent}

-- a map of lanes: a session, a style and a previous hop each
abbrev pub LaneMap : Type 0
LaneMap = Table lane_keys PartTable

-- what went there last, of which there may be nothing
abbrev pub said_at : LaneMap → Lane → PartTable
said_at m l = unwrap_or (get m l) empty

-- with what goes there now
abbrev pub told : LaneMap → Lane → PartTable → LaneMap
told m l ps = cond (nat_lt 0 (size ps)) (put_in m l ps) (without m l)

-- ---- how a table keeps it: a lane by its session, style and previous hop
abbrev pub LanePlace : Type 0
LanePlace = Session × (StyleKind × NextHop)

abbrev pub lane_places : Keys LanePlace
lane_places = pairs sessions (pairs styles next_hops)

abbrev pub PlaceMap : Type 0
PlaceMap = Table lane_places PartTable

abbrev pub sent_key : Sent → LanePlace
sent_key f = (f.session, (f.style, f.hop))

abbrev pub sent_row : Sent × ℕ → LanePlace × (Sent × ℕ)
sent_row e = (sent_key e.0, e)

abbrev pub parts_of : LanePlace → Sent × ℕ → Option PartTable
parts_of k e = Some e.0.parts

-- ---- lanes at their places, which have the same order
abbrev pub lane_at : LanePlace → Lane
lane_at k = record { session = k.0; style = k.1.0; hop = k.1.1 }

abbrev pub place_of : Lane → LanePlace
place_of l = (l.session, (l.style, l.hop))

module _ {X : Type 0} where
  abbrev pub lane_row : LanePlace × X → Lane × X
  lane_row e = (lane_at e.0, e.1)

  below_lanes : (k : LanePlace) (es : List (LanePlace × X)) → T (below_all lane_places.cmp k es) → T (below_all lane_keys.cmp (lane_at k) (each lane_row es))
  below_lanes k [] h = tt
  below_lanes k (e ∷ es) h = both _ _ (first _ _ h) (below_lanes k es (second _ _ h))

  pub sorted_lanes : (es : List (LanePlace × X)) → T (is_sorted lane_places.cmp es) → T (is_sorted lane_keys.cmp (each lane_row es))
  sorted_lanes [] h = tt
  sorted_lanes (e ∷ es) h = both _ _ (below_lanes e.0 es (first _ _ h)) (sorted_lanes es (second _ _ h))

abbrev pub lanes_in : PlaceMap → LaneMap
lanes_in m = record { rows = each lane_row m.rows; sorted = sorted_lanes m.rows m.sorted }

-- ---- how lanes are stored as numbers
abbrev pub lane_code : Coded Lane
lane_code = code_by LanePlace (coded× (session.the_row).coded (coded× (style.the_row).coded (coded× coded_ℕ addr_code))) place_of lane_at (λ _. refl)

abbrev pub lane_map_code : Coded LaneMap
lane_map_code = table_code lane_keys lane_code (table_code units unit_code part_code)
