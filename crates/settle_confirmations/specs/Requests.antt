-- Requests for a confirmation that are on their way, and what answers them (RFC 2205, 2.6 and 3.1.9).
use Rattle.std.specs.Prelude.{◌≡◌, ℕ, List, [], ◌∷◌, true, Some}
use Rattle.rsvp_base.specs.declared.session.Sender.{Sender}
use Rattle.rsvp_base.specs.declared.session.Session.{Session}
use Rattle.rsvp_base.specs.declared.style.StyleKind.{StyleKind}
use Rattle.rsvp_base.specs.declared.style.StyleKind.TheVariants.{Fixed}
use Rattle.rsvp_base.specs.declared.style.Unit.{Unit as UnitOf}
use Rattle.rsvp_base.specs.declared.style.Unit.TheVariants.{Of}
use Rattle.rsvp_base.specs.Members.{In}
use Rattle.rsvp_base.specs.Orders.{Names}
use Rattle.rsvp_base.specs.Styles.{name_of}
use Rattle.rsvp_base.specs.Table.{has}
use Rattle.rsvp_base.specs.TokenBucket.{TokenBucket}
use Rattle.rsvp_messages.specs.declared.message.Message.{Message}
use Rattle.rsvp_messages.specs.declared.message.Message.TheVariants as message
use Rattle.rsvp_messages.specs.declared.message.ResvConfMsg.{ResvConfMsg}
use Rattle.rsvp_messages.specs.declared.message.ResvMsg.{ResvMsg}
use Rattle.rsvp_messages.specs.Units.{AskedUnit, ask_style, asked_units}
use Rattle.style_rules.specs.FlowOrder.{IsAtMost}
use Rattle.router_rules.specs.Confirming.{speaks_of}
use Rattle.router_rules.specs.Facts.{ResvState}
use Rattle.router_rules.specs.Inputs.{Arrival, Spelt, Unspelt}
use Rattle.tree_model.specs.declared.hops.LinkHop.{LinkHop}
use Rattle.tree_model.specs.Goals.{addr_of}
use Rattle.tree_model.specs.Networks.{Net, iface_of, node_of}
use Rattle.tree_model.specs.Trees.{tree}
use Rattle.network_model.specs.Locals.{IsLive}
use Rattle.network_model.specs.Steps.{Step, arrived}
use Rattle.network_model.specs.Worlds.{Item, World}
use Rattle.settle_resvs.specs.SoftResvs.{resv_at}
use Rattle.settle_network.specs.Settled.{HasSettled}

-- the session has no other live sender
abbrev pub IsOnlySender : World → Session → Sender → Type 0
IsOnlySender w s x = (y : Sender) (t : TokenBucket) → IsLive w (s, y) t → y ≡ x

-- the item is a Resv of the session and style from this end, which asks to be confirmed to the address of the end
pub record IsRequest (w : World) (s : Session) (st : StyleKind) (e : ℕ) (y : Item) : Type 0 where
  pub resv : ResvMsg
  pub says : y.arrival ≡ Spelt (message.Resv resv)
  pub session : resv.session ≡ s
  pub style : ask_style resv.ask ≡ st
  pub hop : resv.hop.addr ≡ addr_of w.net e
  pub wish : resv.confirm ≡ Some (addr_of w.net e)

-- ---- for how much
-- what a Resv asks for, and what a ResvConf confirms
abbrev pub message_units : Message → List AskedUnit
message_units (message.Resv m) = asked_units m.ask
message_units (message.ResvConf m) = asked_units m.ask
message_units _ = []

abbrev pub arrival_units : Arrival → List AskedUnit
arrival_units (Spelt m) = message_units m
arrival_units (Unspelt m) = []

-- each flow that the item asks for, or confirms, is at least this one
abbrev pub IsForAtLeast : TokenBucket → Item → Type 0
IsForAtLeast flow y = (u : AskedUnit) → In u (arrival_units y.arrival) → IsAtMost flow u.flow

-- ---- the answer
-- a ResvConf of the session and style comes to the end by the step, for the address of the end. It speaks of the sender: of each list of
-- names that has the sender's. And each flow that it confirms is at least this one
pub record IsAnswered (s : Session) (st : StyleKind) (x : Sender) (flow : TokenBucket) (e : ℕ) (t : Step) (w : World) : Type 0 where
  pub item : Item
  pub conf : ResvConfMsg
  pub arrives : arrived t w ≡ Some item
  pub says : item.arrival ≡ Spelt (message.ResvConf conf)
  pub end : item.end ≡ e
  pub dst : item.dst ≡ addr_of w.net e
  pub session : conf.session ≡ s
  pub style : ask_style conf.ask ≡ st
  pub confirm : conf.confirm ≡ addr_of w.net e
  pub speaks : (names : Names) → has names (name_of st x) ≡ true → speaks_of conf.ask names ≡ true
  pub covers : (u : AskedUnit) → In u (asked_units conf.ask) → IsAtMost flow u.flow

-- ---- a fixed filter for several senders at once
-- the paths of these senders, where they come to the node, come by this end
abbrev pub ComeByOneEnd : World → ℕ → Session → Names → ℕ → Type 0
ComeByOneEnd w n s names e =
    (x : Sender) (t : TokenBucket) (h : LinkHop) → has names x ≡ true → IsLive w (s, x) t → In h (tree w.net.hops s.group x.addr) → node_of w.net.ends h.to ≡ n → h.to ≡ e

-- a ResvConf of the session with a fixed filter comes to the end by the step, for the address of the end. It confirms one of these senders,
-- and no smaller flow of it; of the others it may say nothing
pub record IsAnsweredForOne (s : Session) (names : Names) (flow : TokenBucket) (e : ℕ) (t : Step) (w : World) : Type 0 where
  pub item : Item
  pub conf : ResvConfMsg
  pub arrives : arrived t w ≡ Some item
  pub says : item.arrival ≡ Spelt (message.ResvConf conf)
  pub end : item.end ≡ e
  pub dst : item.dst ≡ addr_of w.net e
  pub session : conf.session ≡ s
  pub style : ask_style conf.ask ≡ Fixed
  pub confirm : conf.confirm ≡ addr_of w.net e
  pub sender : Sender
  pub among : has names sender ≡ true
  pub unit : AskedUnit
  pub confirms : In unit (asked_units conf.ask)
  pub of : unit.unit ≡ Of sender
  pub covers : IsAtMost flow unit.flow

-- ---- what is held when it comes
-- hops of the sender's tree, each out of the node that the one before goes into, down to the end
abbrev pub IsWay : Net → Session → Sender → ℕ → LinkHop → List LinkHop → Type 0
IsWay net s x e h [] = h.to ≡ e
IsWay net s x e h (h' ∷ hs) = In h' (tree net.hops s.group x.addr) × (node_of net.ends h'.from ≡ node_of net.ends h.to) × IsWay net s x e h' hs

-- a reservation for the hop names the sender, with no smaller flow
pub record IsHeldOver (w : World) (s : Session) (st : StyleKind) (x : Sender) (flow : TokenBucket) (h : LinkHop) : Type 0 where
  pub unit : UnitOf
  pub resv : ResvState
  pub there : resv_at w (node_of w.net.ends h.from) st (s, ((iface_of w.net.ends h.from, addr_of w.net h.to), unit)) ≡ Some resv
  pub named : has resv.part.senders (name_of st x) ≡ true
  pub covers : IsAtMost flow resv.part.flow

-- so it is over each hop of the way from the sender to the end
abbrev pub IsHeldAlong : World → Session → StyleKind → Sender → TokenBucket → ℕ → Type 0
IsHeldAlong w s st x flow e = (h : LinkHop) (hs : List LinkHop) → In h (tree w.net.hops s.group x.addr) → IsWay w.net s x e h hs → IsHeldOver w s st x flow h

-- the sender's tree comes into the end
pub record IsReached (net : Net) (s : Session) (x : Sender) (e : ℕ) : Type 0 where
  pub hop : LinkHop
  pub there : In hop (tree net.hops s.group x.addr)
  pub to : hop.to ≡ e

-- the answer comes to an end of the sender's tree in a network that has settled, along whose way from the sender to the end no smaller flow is held
pub record IsConfirmed (q : ℕ) (s : Session) (st : StyleKind) (x : Sender) (flow : TokenBucket) (e : ℕ) (t : Step) (w : World) : Type 0 where
  pub answered : IsAnswered s st x flow e t w
  pub settled : HasSettled q w
  pub reached : IsReached w.net s x e
  pub held : IsHeldAlong w s st x flow e
