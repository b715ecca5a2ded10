-- When a reservation over a hop is renewed: what is asked of the two nodes, and of what is sent over the hop.
use Rattle.std.specs.Prelude.{◌≡◌, ℕ, ◌+◌, ◌≤◌, true, Some, slice_get}
use Rattle.rsvp_base.specs.declared.addr.Addr.{Addr}
use Rattle.rsvp_base.specs.declared.part.Part.{Part}
use Rattle.rsvp_base.specs.declared.session.Sender.{Sender}
use Rattle.rsvp_base.specs.declared.session.Session.{Session}
use Rattle.rsvp_base.specs.declared.style.StyleKind.{StyleKind}
use Rattle.rsvp_base.specs.declared.style.Unit.{Unit as UnitOf}
use Rattle.rsvp_base.specs.Members.{In}
use Rattle.rsvp_base.specs.Table.{get, has}
use Rattle.rsvp_messages.specs.declared.ask.Ask.{Ask}
use Rattle.rsvp_messages.specs.declared.message.Message.TheVariants as message
use Rattle.rsvp_messages.specs.declared.message.ResvMsg.{ResvMsg}
use Rattle.rsvp_messages.specs.declared.message.ResvTearMsg.{ResvTearMsg}
use Rattle.rsvp_messages.specs.Units.{ask_style, tear_style}
use Rattle.tree_model.specs.Goals.{addr_of}
use Rattle.router_rules.specs.Steps.{facts_then}
use Rattle.router_rules.specs.Asking.{ask_of}
use Rattle.router_rules.specs.Facts.{Facts, ResvState, resvs_of}
use Rattle.router_rules.specs.Inputs.{Came, Spelt}
use Rattle.router_rules.specs.Known.{Lane, known, named_as}
use Rattle.router_rules.specs.NodeConfig.{lifetime}
use Rattle.router_rules.specs.Requests.{toward}
use Rattle.tree_model.specs.declared.hops.LinkHop.{LinkHop}
use Rattle.tree_model.specs.Networks.{Net, node_of, iface_of}
use Rattle.network_model.specs.Laws.{config_in}
use Rattle.network_model.specs.Worlds.{Item, World}
use Rattle.laws_steps.specs.ReservationLaws.{TakesName}
use Rattle.settle_resvs.specs.SoftResvs.{ResvKey, SaysResv, line_key_of}

-- ---- a session, style and unit over a hop, from the end that asks to the end that keeps
pub record HopKey : Type 0 where
  pub session : Session
  pub style : StyleKind
  pub unit : UnitOf
  pub from : ℕ
  pub to : ℕ

-- the hop of a tree that a Resv goes back over
abbrev pub hop_over : HopKey → LinkHop
hop_over k = record { from = k.to; to = k.from }

-- the next hop is the end that asks, by its address
abbrev pub resv_key : Net → HopKey → ResvKey
resv_key net k = record { session = k.session; style = k.style; unit = k.unit; next = addr_of net k.from; to = k.to }

-- the item goes to the end that keeps, and its message is of the session and style, from the end that asks
pub record IsOver (net : Net) (k : HopKey) (y : Item) (s : Session) (a : Addr) (st : StyleKind) : Type 0 where
  pub end : y.end ≡ k.to
  pub session : s ≡ k.session
  pub from : a ≡ addr_of net k.from
  pub style : st ≡ k.style

-- the end that asks, as its node sees it: what goes toward the end that keeps
abbrev pub lane_of : Net → HopKey → Lane
lane_of net k = record { session = k.session; style = k.style; hop = (iface_of net.ends k.from, addr_of net k.to) }

-- the node of the end that keeps has the part once the item has come, for as long as the Resv sets it: it does not refuse the
-- Resv, leave the unit out or cut it
abbrev pub IsKept : ℕ → Net → HopKey → Part → World → Item → ResvMsg → Type 0
IsKept q net k v u y m =
    let n : ℕ = node_of net.ends k.to in
    (f : Facts) → slice_get u.nodes n ≡ Some f
    → (r : ResvState)
    × (get (resvs_of k.style (facts_then (config_in q u n) (config_in q u n) u.clock (Came (iface_of net.ends k.to) y.dst (Spelt (message.Resv m))) f)) (line_key_of net (resv_key net k))
    ≡ Some r) × (r.part ≡ v) × (r.dies ≡ u.clock + lifetime (config_in q u n) m.period)

-- ---- the part is said over the hop and is kept, of what is sent from step b on
pub record IsSaid (q : ℕ) (net : Net) (k : HopKey) (v : Part) (b : ℕ) (u : World) : Type 0 where
  -- each Resv of the session and style that is sent over the hop carries the part, and no such ResvTear takes a name of it
  pub carried : (y : Item) (m : ResvMsg) → In y u.flight → b ≤ y.born → y.arrival ≡ Spelt (message.Resv m) → IsOver net k y m.session m.hop.addr (ask_style m.ask) → SaysResv net (resv_key net k) y v
  pub spared : (y : Item) (m : ResvTearMsg) → In y u.flight → b ≤ y.born → y.arrival ≡ Spelt (message.ResvTear m) → IsOver net k y m.session m.hop.addr (tear_style m.tear) → TakesName m v → ⊥
  -- each that arrives is taken
  pub taken : (y : Item) → In y u.flight → b ≤ y.born → (says : SaysResv net (resv_key net k) y v) → IsKept q net k v u y says.resv
  -- the node that asks has something to ask for
  pub asks : (f : Facts) → slice_get u.nodes (node_of net.ends k.from) ≡ Some f → (ask : Ask) × (ask_of k.style (toward (config_in q u (node_of net.ends k.from)) f (lane_of net k)) ≡ Some ask)
  -- the node that keeps knows each sender of the part
  pub known : (f : Facts) → slice_get u.nodes (node_of net.ends k.to) ≡ Some f → (x : Sender) → has v.senders x ≡ true → has (named_as k.style (known f k.session)) x ≡ true
