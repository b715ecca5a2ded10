-- Previous hops of paths that died.
use Rattle.std.specs.Prelude.{ℕ, nat_le, cond, Option, Some, None}
use Rattle.std.specs.Coded.{Coded, coded×, coded_ℕ}
use Rattle.rsvp_base.specs.Orders.{addr_code, sender_code}
use Rattle.rsvp_base.specs.Table.{Table, changed, table_code}
use Rattle.rsvp_base.specs.contracts.session.Session as session
use Rattle.rsvp_base.specs.declared.addr.Addr.{Addr}
use Rattle.path_state.specs.Paths.{path_keys}
use Rattle.path_state.specs.declared.fact.PathFact.{PathFact}
use Rattle.router_rules.specs.Facts.{SenderKey, sender_keys}
use Rattle.router_aging.specs.declared.lost.LostHop.{LostHop}

abbrev pub LostTable : Type 0
LostTable = Table sender_keys (ℕ × Addr)

abbrev pub lost_row : LostHop → SenderKey × (ℕ × Addr)
lost_row d = ((d.session, d.sender), d.hop)

abbrev pub lost_code : Coded LostTable
lost_code = table_code sender_keys (coded× (session.the_row).coded sender_code) (coded× coded_ℕ addr_code)

-- where a path came from
abbrev pub came_from : PathFact → ℕ × Addr
came_from f = (f.iface, f.hop.addr)

abbrev pub left_from : SenderKey → PathFact → Option (ℕ × Addr)
left_from k f = Some (came_from f)

-- the previous hops of the paths with at most so much left
abbrev pub loses : ℕ → SenderKey → PathFact × ℕ → Option (ℕ × Addr)
loses ms k e = cond (nat_le e.1 ms) (Some (came_from e.0)) None

abbrev pub lost_hops : ℕ → Table path_keys (PathFact × ℕ) → LostTable
lost_hops ms m = changed (loses ms) m
