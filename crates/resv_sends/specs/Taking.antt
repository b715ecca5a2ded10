-- Which requests toward a previous hop are not blockaded, and which wants take part in what goes there (RFC 2205, 2.6 and
-- 3.5).
use Rattle.std.specs.Prelude.{Bool, false, not, ◌&&◌, List, map as each, Option, Some, None}
use Rattle.std.specs.List.{filter}
use Rattle.std.specs.Option.{option_map}
use Rattle.std.specs.Ordering.{eq_by_cmp}
use Rattle.rsvp_base.specs.Orders.{sessions, units}
use Rattle.rsvp_base.specs.Table.{get}
use Rattle.rsvp_base.specs.Under.{under}
use Rattle.rsvp_base.specs.declared.part.Part.{Part}
use Rattle.rsvp_base.specs.declared.session.Session.{Session}
use Rattle.rsvp_base.specs.declared.style.StyleKind.{StyleKind}
use Rattle.rsvp_base.specs.declared.style.StyleKind.TheVariants.{Wild, Fixed, Shared}
use Rattle.rsvp_base.specs.declared.style.Unit.{Unit as UnitOf}
use Rattle.style_rules.specs.Merge.{PartTable}
use Rattle.style_rules.specs.Parts.{part_cut}
use Rattle.style_rules.specs.Toward.{Request, open_of, request_unit, requests_at}
use Rattle.style_rules.specs.Ways.{WayTable}
use Rattle.resv_state.specs.Merging.{SessionRow, names_via, request_of, requests_toward, resv_request, want_request}
use Rattle.resv_state.specs.Walks.{rests}
use Rattle.router_rules.specs.Facts.{Want}
use Rattle.router_rules.specs.Sends.{is_empty, takes_part}
use Rattle.router_state.specs.declared.tables.Tables.{Tables}
use Rattle.resv_sends.specs.declared.taking.Asking.{Asking}

-- what is to be known of a request: its unit, and whether it is blockaded
abbrev pub asking_of : StyleKind → Request → Asking
asking_of st r = record { unit = request_unit st r; blockaded = r.blockaded }

abbrev pub asks_for : StyleKind → Option Request → Option Asking
asks_for st r = option_map (asking_of st) r

-- it is of the unit, and not blockaded
abbrev pub is_open : UnitOf → Option Asking → Bool
is_open u None = false
is_open u (Some a) = eq_by_cmp units.cmp u a.unit && not a.blockaded

abbrev pub is_resv_open : StyleKind → WayTable → UnitOf → SessionRow → Bool
is_resv_open st up u e = is_open u (asks_for st (resv_request up e))

abbrev pub is_want_open : StyleKind → WayTable → UnitOf → UnitOf × Part → Bool
is_want_open st up u e = is_open u (asks_for st (want_request up e))

-- a request of the unit is not blockaded
abbrev pub has_open : StyleKind → UnitOf → List Request → Bool
has_open st u rs = not (is_empty (open_of (requests_at st u rs)))

-- ---- of the tables of a node
-- the reservations of a session, of a style
abbrev pub rows_of : StyleKind → Tables → Session → List SessionRow
rows_of Wild t s = (under sessions rests t.wild.facts s).rows
rows_of Fixed t s = (under sessions rests t.fixed.facts s).rows
rows_of Shared t s = (under sessions rests t.shared.facts s).rows

-- all requests of a style toward a previous hop: of the reservations, and of what the wants ask for there
abbrev pub requests_of : StyleKind → Tables → Session → WayTable → PartTable → List Request
requests_of st t s up own = requests_toward up (rows_of st t s) own

abbrev pub takes_as : StyleKind → List Request → WayTable → Option Part → Bool
takes_as st all up None = false
takes_as st all up (Some part) = takes_part st all (request_of up (part_cut part (names_via up)))

-- a want is to be confirmed, and takes part
abbrev pub is_marked_in : StyleKind → List Request → WayTable → PartTable → UnitOf × Want → Bool
is_marked_in st all up own e = e.1.confirm && takes_as st all up (get own e.0)

abbrev pub marked_in : StyleKind → List Request → WayTable → PartTable → List (UnitOf × Want) → List UnitOf
marked_in st all up own es = each (λ e. e.0) (filter (is_marked_in st all up own) es)
