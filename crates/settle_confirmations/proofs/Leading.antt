-- Requests of a fixed filter for several senders: of whom marks lead down to the end that asked, and who stands already.
use Rattle.std.proofs.Common.{◌≡◌, ℕ, List, [], ◌∷◌, ◌⊎◌, Some, true}
use Rattle.std.specs.Prelude.{◌++◌}
use Rattle.rsvp_base.specs.declared.addr.Addr.{Addr}
use Rattle.rsvp_base.specs.declared.part.Part.{Part}
use Rattle.rsvp_base.specs.declared.session.Sender.{Sender}
use Rattle.rsvp_base.specs.declared.session.Session.{Session}
use Rattle.rsvp_base.specs.declared.style.StyleKind.TheVariants.{Fixed}
use Rattle.rsvp_base.specs.declared.style.Unit.TheVariants.{Of}
use Rattle.rsvp_base.specs.Members.{In}
use Rattle.rsvp_base.specs.Orders.{Names}
use Rattle.rsvp_base.specs.Table.{has}
use Rattle.rsvp_base.specs.TokenBucket.{TokenBucket}
use Rattle.rsvp_messages.specs.declared.message.Message.TheVariants as message
use Rattle.rsvp_messages.specs.declared.message.ResvConfMsg.{ResvConfMsg}
use Rattle.rsvp_messages.specs.Units.{AskedUnit, ask_style, asked_units}
use Rattle.style_rules.specs.FlowOrder.{IsAtMost}
use Rattle.router_rules.specs.Facts.{ResvState}
use Rattle.router_rules.specs.Inputs.{Spelt}
use Rattle.tree_model.specs.declared.hops.LinkHop.{LinkHop}
use Rattle.tree_model.specs.Goals.{addr_of}
use Rattle.tree_model.specs.Networks.{node_of}
use Rattle.tree_model.specs.Trees.{hops_of, tree}
use Rattle.network_model.specs.Worlds.{Item, World}
use Rattle.settle_resvs.specs.Said.{HopKey, resv_key}
use Rattle.settle_resvs.specs.SoftResvs.{SaysResv, line_key_of, resv_at}
use Rattle.settle_passes.specs.Reserving.{AllAsk, IsKeptOver, IsReserving}
use Rattle.settle_confirmations.proofs.Moving.{IsConf, IsNext}

-- ---- marks of one sender
-- the sender by itself, over a hop
abbrev pub key_of : Session → Sender → LinkHop → HopKey
key_of s x h = record { session = s; style = Fixed; unit = Of x; from = h.to; to = h.from }

-- its reservation for the hop is kept at the node that it goes out of, and is to be confirmed to the address
pub record IsMarkedFor (w : World) (s : Session) (x : Sender) (a : Addr) (h : LinkHop) : Type 0 where
  pub resv : ResvState
  pub there : resv_at w (node_of w.net.ends h.from) Fixed (line_key_of w.net (resv_key w.net (key_of s x h))) ≡ Some resv
  pub wish : resv.confirm ≡ Some a

-- such marks lead from behind the hop down to the end that asked
abbrev pub LeadsFor : World → Session → Sender → ℕ → List LinkHop → LinkHop → Type 0
LeadsFor w s x e [] h = h.to ≡ e
LeadsFor w s x e (h' ∷ hs) h = IsNext w.net s x h h' × IsMarkedFor w s x (addr_of w.net e) h' × LeadsFor w s x e hs h'

-- a sender that was asked for, over a hop of its tree from which marks lead down; and the flow is no smaller than what was asked for
pub record IsLed (w : World) (s : Session) (names : Names) (flow : TokenBucket) (e : ℕ) (x : Sender) (h : LinkHop) (t : TokenBucket) : Type 0 where
  pub among : has names x ≡ true
  pub there : In h (tree w.net.hops s.group x.addr)
  pub covers : IsAtMost flow t
  pub hops : List LinkHop
  pub leads : LeadsFor w s x e hops h

-- ---- what is in flight
-- the part stands behind the hop, and of these items none asks for anything else there
abbrev pub StandsOver : World → Session → Sender → LinkHop → Part → List Item → Type 0
StandsOver w s x h v ys = IsKeptOver w (key_of s x h) v × AllAsk w.net (key_of s x h) v ys

-- whatever a Resv asks for of one sender, marks lead down, or it stands already when those before it have arrived
abbrev pub IsClimbing : World → Session → Names → TokenBucket → ℕ → Type 0
IsClimbing w s names flow e =
    (x : Sender) (h : LinkHop) (xs zs : List Item) (y : Item) (v : Part) → In h (hops_of w.net.hops s.group) → w.flight ≡ xs ++ y ∷ zs → SaysResv w.net (resv_key w.net (key_of s x h)) y v
    → IsLed w s names flow e x h v.flow ⊎ StandsOver w s x h v xs

-- a request of the end that goes up: of one of its senders marks lead down
pub record IsUpFor (w : World) (s : Session) (names : Names) (flow : TokenBucket) (e : ℕ) (y : Item) : Type 0 where
  pub sender : Sender
  pub hop : LinkHop
  pub part : Part
  pub says : SaysResv w.net (resv_key w.net (key_of s sender hop)) y part
  pub wish : says.resv.confirm ≡ Some (addr_of w.net e)
  pub led : IsLed w s names flow e sender hop part.flow

-- its answer, which goes down: it confirms a sender of whom marks lead down
pub record IsDownFor (w : World) (s : Session) (names : Names) (flow : TokenBucket) (e : ℕ) (y : Item) : Type 0 where
  pub conf : ResvConfMsg
  pub says : y.arrival ≡ Spelt (message.ResvConf conf)
  pub session : conf.session ≡ s
  pub style : ask_style conf.ask ≡ Fixed
  pub confirm : conf.confirm ≡ addr_of w.net e
  pub sender : Sender
  pub unit : AskedUnit
  pub confirms : In unit (asked_units conf.ask)
  pub is : unit.unit ≡ Of sender
  pub hop : LinkHop
  pub end : y.end ≡ hop.to
  pub dst : y.dst ≡ addr_of w.net hop.to
  pub led : IsLed w s names flow e sender hop unit.flow

-- a network that reserves, in which all that is in flight are such requests of the end, and ResvConfs
pub record IsRising (q : ℕ) (s : Session) (names : Names) (flow : TokenBucket) (e : ℕ) (w : World) : Type 0 where
  pub reserving : IsReserving q s w
  pub each : (y : Item) → In y w.flight → IsUpFor w s names flow e y ⊎ IsConf y
  pub climbs : IsClimbing w s names flow e
