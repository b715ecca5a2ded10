-- What the reservations of a session ask for: on an interface, and toward a previous hop (RFC 2205, 2.2 and 3.5).
use Rattle.std.specs.Prelude.{◌==◌, ℕ, Bool, true, false, cond, not, ◌&&◌, List, [], ◌∷◌, ◌++◌, Option, Some, None}
use Rattle.std.specs.Int.{bit_at}
use Rattle.std.specs.List.{list_any, filter_map, flat_map}
use Rattle.std.specs.Option.{option_map}
use Rattle.std.specs.Ordering.{eq_by_cmp}
use Rattle.flow_merge.specs.FlowOrder.{flow_join}
use Rattle.rsvp_base.specs.Orders.{Names, units}
use Rattle.rsvp_base.specs.Sets.{set_of}
use Rattle.rsvp_base.specs.Table.{get, keys, changed}
use Rattle.rsvp_base.specs.TokenBucket.{TokenBucket}
use Rattle.rsvp_base.specs.declared.part.Part.{Part}
use Rattle.rsvp_base.specs.declared.style.Unit.{Unit as UnitOf}
use Rattle.style_rules.specs.Merge.{PartTable}
use Rattle.style_rules.specs.Parts.{part_cut}
use Rattle.style_rules.specs.Toward.{Request, is_walled}
use Rattle.style_rules.specs.Ways.{Way, WayTable}
use Rattle.resv_state.specs.declared.fact.Held.{Held}
use Rattle.resv_state.specs.declared.fact.ResvFact.{ResvFact}
use Rattle.resv_state.specs.Walks.{Rest, rests}

-- a reservation of a session, by next hop and unit
abbrev pub SessionRow : Type 0
SessionRow = Rest × (ResvFact × ℕ)

-- ---- on an interface
abbrev pub part_on : ℕ → SessionRow → Option Part
part_on iface e = cond (e.0.0.0 == iface) (Some e.1.0.part) None

abbrev pub parts_on : ℕ → List SessionRow → List Part
parts_on iface es = filter_map (part_on iface) es

-- ---- toward a previous hop, by the names that come from it
abbrev pub names_via : WayTable → Names
names_via up = changed (λ x way. Some tt) up

-- the tree goes out of the interface
abbrev pub is_out : ℕ → Way → Bool
is_out iface way = bit_at way.outward iface == 1

abbrev pub names_out : WayTable → ℕ → Names
names_out up iface = changed (λ x way. cond (is_out iface way) (Some tt) None) up

-- the blockade of a name keeps such a flow back
abbrev pub is_way_walled : TokenBucket → Option Way → Bool
is_way_walled asked None = false
is_way_walled asked (Some way) = is_walled asked way.wall

-- a request is blockaded by the blockade of any of its names
abbrev pub is_blockaded : WayTable → Part → Bool
is_blockaded up p = list_any (λ x. is_way_walled p.flow (get up x)) (keys p.senders)

-- what is left of a part, as a request
abbrev pub request_of : WayTable → Option Part → Option Request
request_of up p = option_map (λ q. record { part = q; blockaded = is_blockaded up q }) p

-- a reservation is cut to the names whose tree goes out of its interface, and a local want to all names
abbrev pub resv_request : WayTable → SessionRow → Option Request
resv_request up e = request_of up (part_cut e.1.0.part (names_out up e.0.0.0))

abbrev pub want_request : WayTable → UnitOf × Part → Option Request
want_request up e = request_of up (part_cut e.1 (names_via up))

abbrev pub requests_toward : WayTable → List SessionRow → PartTable → List Request
requests_toward up es own = filter_map (resv_request up) es ++ filter_map (want_request up) own.rows

-- ---- how it is worked out
-- the names, by an interface or by any
abbrev pub names_by : Option ℕ → WayTable → Names
names_by None up = names_via up
names_by (Some iface) up = names_out up iface

abbrev pub is_by : Option ℕ → Option Way → Bool
is_by iface None = false
is_by None (Some way) = true
is_by (Some iface) (Some way) = is_out iface way

abbrev pub one_of : {A : Type 0} → Option A → List A
one_of None = []
one_of (Some x) = x ∷ []

abbrev pub open_on : ℕ → ℕ → Part → Option Request
open_on iface at p = cond (at == iface) (Some (record { part = p; blockaded = false })) None

-- of the rows of a table below
abbrev pub held_said : Rest × (Held × ℕ) → SessionRow
held_said e = (e.0, (e.1.0.fact, e.1.1))

abbrev pub held_on : ℕ → Rest × (Held × ℕ) → Option Request
held_on iface e = open_on iface e.0.0.0 e.1.0.fact.part

abbrev pub held_toward : WayTable → Rest × (Held × ℕ) → Option Request
held_toward up e = resv_request up (held_said e)

abbrev pub held_names : List (Rest × (Held × ℕ)) → Names
held_names es = set_of (flat_map (λ e. keys e.1.0.fact.part.senders) es)

-- ---- what an entry would be with another reservation in place of one
-- a reservation of the same interface and unit, of another next hop
abbrev pub is_beside : Rest → Rest → Bool
is_beside r q = (r.0.0 == q.0.0) && (eq_by_cmp units.cmp r.1 q.1 && not (eq_by_cmp rests.cmp r q))

-- the join of a flow with theirs
abbrev pub joined_with : Rest → TokenBucket → List SessionRow → TokenBucket
joined_with r f [] = f
joined_with r f (e ∷ es) = joined_with r (cond (is_beside r e.0) (flow_join f e.1.0.part.flow) f) es
