-- Where a frame may stand, and what is in range; where a router stands that is opened; why a frame is bad.
use Rattle.std.specs.Prelude.{◌≡◌, ◌≢◌, ℕ, suc, zero, ◌*◌, ◌/◌, ◌%◌, ◌^◌, ◌<◌, ◌≤◌, Bool, true, false, List, length, map as each, Option, None, Some, IfSome, is_some}
use Rattle.std.specs.List.{range_with_len}
use Rattle.rsvp_base.specs.Keys.{Keys, pairs}
use Rattle.rsvp_base.specs.Orders.{addrs}
use Rattle.rsvp_base.specs.Table.{Table, empty, put_in, values}
use Rattle.rsvp_base.specs.declared.addr.Addr.{Addr}
use Rattle.rsvp_base.specs.declared.iface.Iface.{Iface}
use Rattle.router_rules.specs.NodeConfig.{NodeConfig}
use Rattle.router_rules.specs.declared.route.Route.{Route}
use Rattle.script_words.specs.declared.fault.LineWhy.{LineWhy}
use Rattle.script_words.specs.declared.fault.LineWhy.TheVariants as why
use Rattle.node_stream.specs.Layout.{frame_of, iface_at, iface_count, period_in, route_at, route_count}
use Rattle.node_stream.specs.declared.frame.Frame.{Frame}
use Rattle.node_stream.specs.declared.frame.Frame.TheVariants.{Opens, Comes, Waits, Clears}

-- ---- in turn: the first frame opens the router, and no other does
abbrev pub IsInTurn : Bool → Frame → Type 0
IsInTurn false Opens = Unit {0}
IsInTurn false _ = ⊥
IsInTurn true Opens = ⊥
IsInTurn true _ = Unit {0}

-- ---- in range, of the frame that opens the router
pub record IsPeriod (ms : ℕ) : Type 0 where
  pub least : 1000 ≤ ms
  pub most : ms ≤ 60000
  pub whole : ms % 4 ≡ 0

pub record IsMtu (bytes : ℕ) : Type 0 where
  pub some : 1 ≤ bytes
  pub most : bytes ≤ 65535

pub record IsIface (on : Iface) : Type 0 where
  pub capacity : on.capacity < 2 ^ 46
  pub mtu : IsMtu on.mtu

-- of n interfaces: it comes in by one of them, if by any, and goes out by them alone
pub record IsRoute (n : ℕ) (r : Route) : Type 0 where
  pub inward : IfSome r.inward (λ i. i < n)
  pub outward : r.outward < 2 ^ n

abbrev pub iface_addr : List ℕ → ℕ → ℕ
iface_addr contents k = (iface_at contents k).addr.0

-- the group and source of a route
abbrev pub tree_of : Route → Addr × Addr
tree_of r = (r.group, r.source)

abbrev pub tree_at : List ℕ → ℕ → Addr × Addr
tree_at contents k = tree_of (route_at contents k)

pub record IsPlace (contents : List ℕ) : Type 0 where
  pub period : IsPeriod (period_in contents)
  pub few : iface_count contents ≤ 16
  pub ifaces : (k : ℕ) → k < iface_count contents → IsIface (iface_at contents k)
  -- no two have the same address
  pub apart : (j k : ℕ) → j < k → k < iface_count contents → iface_addr contents j ≢ iface_addr contents k
  pub routes : (k : ℕ) → k < route_count contents → IsRoute (iface_count contents) (route_at contents k)
  -- no two have the same group and source
  pub once : (j k : ℕ) → j < k → k < route_count contents → tree_at contents j ≢ tree_at contents k

-- the same but for what it takes memory to see: that no two routes have the same group and source
pub record AreNumbersInRange (contents : List ℕ) : Type 0 where
  pub period : IsPeriod (period_in contents)
  pub few : iface_count contents ≤ 16
  pub ifaces : (k : ℕ) → k < iface_count contents → IsIface (iface_at contents k)
  pub apart : (j k : ℕ) → j < k → k < iface_count contents → iface_addr contents j ≢ iface_addr contents k
  pub routes : (k : ℕ) → k < route_count contents → IsRoute (iface_count contents) (route_at contents k)

-- ---- where the router then stands: its routes are in the order of group and source
abbrev pub tree_keys : Keys (Addr × Addr)
tree_keys = pairs addrs addrs

-- the first k routes
abbrev pub routes_to : List ℕ → ℕ → Table tree_keys Route
routes_to contents zero = empty
routes_to contents (suc k) = put_in (routes_to contents k) (tree_at contents k) (route_at contents k)

abbrev pub ifaces_in : List ℕ → List Iface
ifaces_in contents = each (iface_at contents) (range_with_len 0 (iface_count contents))

abbrev pub place_in : List ℕ → NodeConfig
place_in contents = record { quarter = period_in contents / 4; ifaces = ifaces_in contents; routes = values (routes_to contents (route_count contents)) }

-- ---- in range, of the others
pub record IsWait (quarter ms : ℕ) : Type 0 where
  pub some : 1 ≤ ms
  -- half of the period
  pub most : ms ≤ 2 * quarter

-- a frame for a router that stands there, or is not open
abbrev pub IsInRange : Option NodeConfig → List ℕ → Frame → Type 0
IsInRange p contents Opens = IsPlace contents
IsInRange p contents (Comes iface dst) = IfSome p (λ q. iface < length q.ifaces)
IsInRange p contents (Waits ms word) = IfSome p (λ q. IsWait q.quarter ms)
IsInRange p contents Clears = Unit {0}

-- ---- a bad frame: the rule that it breaks first
module _ (p : Option NodeConfig) (kind : ℕ) (contents : List ℕ) where
  pub record IsOutOfTurn : Type 0 where
    pub said : Frame
    pub reads : frame_of kind contents ≡ Some said
    pub out : IsInTurn (is_some p) said → ⊥

  pub record IsOutOfRange : Type 0 where
    pub said : Frame
    pub reads : frame_of kind contents ≡ Some said
    pub in_turn : IsInTurn (is_some p) said
    pub out : IsInRange p contents said → ⊥

  -- there is no other reason
  abbrev pub HasFault : LineWhy → Type 0
  HasFault why.Word = frame_of kind contents ≡ None
  HasFault why.Late = IsOutOfTurn
  HasFault why.Range = IsOutOfRange
  HasFault _ = ⊥
