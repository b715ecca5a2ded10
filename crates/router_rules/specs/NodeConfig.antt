-- Where a node stands: its period, its interfaces, and how it lies in the trees of groups and sources.
use Rattle.std.specs.Prelude.{ℕ, ◌+◌, ◌*◌, ◌/◌, ◌==◌, min, max, Bool, false, cond, ◌&&◌, List, [], ◌∷◌, length, slice_get, Option, Some, None}
use Rattle.std.specs.Int.{bit_at}
use Rattle.std.specs.List.{filter, list_any, range_with_len}
use Rattle.std.specs.Ordering.{eq_by_cmp}
use Rattle.rsvp_base.specs.Orders.{sessions}
use Rattle.rsvp_base.specs.declared.iface.Iface.{Iface}
use Rattle.rsvp_base.specs.declared.addr.Addr.{Addr}
use Rattle.rsvp_base.specs.declared.session.Sender.{Sender}
use Rattle.rsvp_base.specs.declared.session.Session.{Session}
use Rattle.router_rules.specs.declared.route.Route.{Route}

-- quarter is a quarter of the refresh period R
pub record NodeConfig : Type 0 where
  pub quarter : ℕ
  pub ifaces : List Iface
  pub routes : List Route

abbrev pub is_addr : Addr → Addr → Bool
is_addr a b = a.0 == b.0

abbrev pub is_session : Session → Session → Bool
is_session s t = eq_by_cmp sessions.cmp s t

-- ---- times (RFC 2205, 3.7)
abbrev pub period : NodeConfig → ℕ
period p = 4 * p.quarter

-- 5.25 times the period that a message says, brought into the range from 1 to R; rounded down
abbrev pub lifetime : NodeConfig → ℕ → ℕ
lifetime p said = (21 * max 1 (min said (period p)) + 3) / 4

-- how long a blockade lives: 4 R
abbrev pub wall_lifetime : NodeConfig → ℕ
wall_lifetime p = 4 * period p

-- ---- interfaces
abbrev pub addr_of : Option Iface → Addr
addr_of None = record { 0 = 0 }
addr_of (Some i) = i.addr

-- the node's own address of an interface
abbrev pub own : NodeConfig → ℕ → Addr
own p i = addr_of (slice_get p.ifaces i)

abbrev pub is_own : NodeConfig → Addr → Bool
is_own p a = list_any (λ i. is_addr i.addr a) p.ifaces

-- ---- trees
abbrev pub route_in : List Route → Addr → Addr → Option Route
route_in [] g a = None
route_in (r ∷ rs) g a = cond (is_addr r.group g && is_addr r.source a) (Some r) (route_in rs g a)

-- a sender's tree in a session is that of the session's group and the sender's address
abbrev pub tree : NodeConfig → Session → Sender → Option Route
tree p s x = route_in p.routes s.group x.addr

abbrev pub is_out : Option Route → ℕ → Bool
is_out None i = false
is_out (Some r) i = bit_at r.outward i == 1

-- the sender's tree goes out of the interface
abbrev pub goes_out : NodeConfig → Session → ℕ → Sender → Bool
goes_out p s i x = is_out (tree p s x) i

abbrev pub outward : NodeConfig → Session → Sender → List ℕ
outward p s x = filter (λ i. goes_out p s i x) (range_with_len 0 (length p.ifaces))

abbrev pub is_iface : Option ℕ → ℕ → Bool
is_iface None i = false
is_iface (Some j) i = j == i

abbrev pub is_in : Option Route → ℕ → Bool
is_in None i = false
is_in (Some r) i = is_iface r.inward i

-- the sender's tree comes in by the interface
abbrev pub comes_in : NodeConfig → Session → ℕ → Sender → Bool
comes_in p s i x = is_in (tree p s x) i
