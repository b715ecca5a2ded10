-- A node of which one sender changed.
use Rattle.std.specs.Prelude.{◌≡◌, false}
use Rattle.std.specs.Ordering.{eq_by_cmp}
use Rattle.rsvp_base.specs.Orders.{sessions}
use Rattle.rsvp_base.specs.Table.{get, has}
use Rattle.rsvp_base.specs.declared.style.StyleKind.{StyleKind}
use Rattle.router_state.specs.StyleRules.Lines.{LineKey}
use Rattle.router_state.specs.StyleRules.Targets.{WallKey}
use Rattle.router_state.specs.RouterRules.Facts.{SenderKey, WantKey, sender_keys}
use Rattle.router_state.specs.State.{State, table_in}

-- the other senders, advertised or not, and paths, and the reservations, wants and blockades of other sessions are as they were
pub record IsChangedFor (k : SenderKey) (n m : State) : Type 0 where
  pub place : n.place ≡ m.place
  pub senders : (j : SenderKey) → eq_by_cmp sender_keys.cmp k j ≡ false → get n.senders j ≡ get m.senders j
  pub advertised : (j : SenderKey) → eq_by_cmp sender_keys.cmp k j ≡ false → has n.advertised j ≡ has m.advertised j
  pub paths : (j : SenderKey) → eq_by_cmp sender_keys.cmp k j ≡ false → get n.paths j ≡ get m.paths j
  pub wants : (j : WantKey) → eq_by_cmp sessions.cmp k.0 j.0 ≡ false → get n.wants j ≡ get m.wants j
  pub walls : (j : WallKey) → eq_by_cmp sessions.cmp k.0 j.0 ≡ false → get n.walls j ≡ get m.walls j
  pub resvs : (st : StyleKind) (q : LineKey) → eq_by_cmp sessions.cmp k.0 q.0 ≡ false → get (table_in st n) q ≡ get (table_in st m) q
