-- The paths that a node knows.
use Rattle.std.specs.Prelude.{◌≡◌, ◌==◌, ◌&&◌, ◌-◌, cond, nat_le, map as each, ℕ, Bool, List, Option, Some, None, refl}
use Rattle.std.specs.Coded.{Coded, code_by, coded×, coded_ℕ}
use Rattle.std.specs.List.{filter}
use Rattle.rsvp_base.specs.Keys.{Keys, numbers, pairs}
use Rattle.rsvp_base.specs.Orders.{addrs, sessions, senders, Names, names_from, addr_code, sender_code}
use Rattle.rsvp_base.specs.Sets.{Set, set_of, set_code}
use Rattle.rsvp_base.specs.Table.{Table, get, table_code}
use Rattle.rsvp_base.specs.Under.{rows_under, under}
use Rattle.soft_table.specs.Facts.{facts_by}
use Rattle.rsvp_base.specs.declared.addr.Addr.{Addr}
use Rattle.rsvp_base.specs.declared.session.Sender.{Sender}
use Rattle.rsvp_base.specs.declared.session.Session.{Session}
use Rattle.path_state.specs.declared.fact.PathFact.{PathFact}
use Rattle.path_state.specs.contracts.fact.PathFact as fact
use Rattle.rsvp_base.specs.contracts.session.Session as session

abbrev pub path_keys : Keys (Session × Sender)
path_keys = pairs sessions senders

abbrev pub path_key : PathFact → Session × Sender
path_key f = (f.session, f.sender)

-- by session and sender the fact of a path, with the milliseconds that are left of it; and the dead that wait
pub record PathMap : Type 0 where
  pub facts : Table path_keys (PathFact × ℕ)
  pub dead : Table path_keys PathFact

-- each fact stands under its own session and sender
abbrev pub AreByKey : Table path_keys (PathFact × ℕ) → Type 0
AreByKey m = (k : Session × Sender) (e : PathFact × ℕ) → get m k ≡ Some e → path_key e.0 ≡ k

abbrev pub fact_row : PathFact × ℕ → (Session × Sender) × (PathFact × ℕ)
fact_row e = (path_key e.0, e)

abbrev pub dead_row : PathFact → (Session × Sender) × PathFact
dead_row f = (path_key f, f)

-- how paths are stored as numbers
abbrev pub key_code : Coded (Session × Sender)
key_code = coded× (session.the_row).coded sender_code

abbrev pub path_map_code : Coded PathMap
path_map_code =
    code_by (Table path_keys (PathFact × ℕ) × Table path_keys PathFact) (coded× (table_code path_keys key_code (coded× (fact.the_row).coded coded_ℕ))
    (table_code path_keys key_code (fact.the_row).coded))
    (λ m. (m.facts, m.dead)) (λ p. record { facts = p.0; dead = p.1 }) (λ _. refl)

-- ---- the paths of a session, by sender
abbrev pub paths_under : Session → List (PathFact × ℕ) → List (Sender × (PathFact × ℕ))
paths_under s fs = rows_under sessions senders s (facts_by path_key fs)

-- ---- the senders of a session by one interface and hop
abbrev pub comes_by : ℕ → Addr → PathFact → Bool
comes_by iface addr f = f.iface == iface && f.hop.addr.0 == addr.0

-- of these paths of a session, by sender
abbrev pub senders_by : ℕ → Addr → List (Sender × (PathFact × ℕ)) → List Sender
senders_by iface addr es = each (λ e. e.1.0.sender) (filter (λ e. comes_by iface addr e.1.0) es)

abbrev pub via : Table path_keys (PathFact × ℕ) → Session → ℕ → Addr → Names
via m session iface addr = names_from (senders_by iface addr (under sessions senders m session).rows)

-- ---- previous hops: an interface, and the address of the node behind it
abbrev pub path_hops : Keys (ℕ × Addr)
path_hops = pairs numbers addrs

abbrev pub HopSet : Type 0
HopSet = Set path_hops

abbrev pub hop_of : Sender × (PathFact × ℕ) → ℕ × Addr
hop_of e = (e.1.0.iface, e.1.0.hop.addr)

-- of these paths of a session
abbrev pub hops_by : List (Sender × (PathFact × ℕ)) → HopSet
hops_by es = set_of (each hop_of es)

abbrev pub hop_row : ℕ × Addr → (ℕ × Addr) × Unit {0}
hop_row h = (h, tt)

abbrev pub hop_set_code : Coded HopSet
hop_set_code = set_code path_hops (coded× coded_ℕ addr_code)

-- ---- addresses
abbrev pub is_from : Addr → Sender → Bool
is_from addr x = x.addr.0 == addr.0

-- ---- time
-- a fact with more left than this time has so much less left
abbrev pub later : ℕ → Session × Sender → PathFact × ℕ → Option (PathFact × ℕ)
later ms k e = cond (nat_le e.1 ms) None (Some (e.0, e.1 - ms))

-- one with at most so much left is dead
abbrev pub dead_after : ℕ → Session × Sender → PathFact × ℕ → Option PathFact
dead_after ms k e = cond (nat_le e.1 ms) (Some e.0) None
