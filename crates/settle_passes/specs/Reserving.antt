-- Reservations that are set up by passes: what each node asks for over a hop stands behind it, or is on its way.
use Rattle.std.specs.Prelude.{◌≡◌, ℕ, ◌≤◌, ◌⊎◌, List, [], ◌∷◌, Bool, Some, slice_get}
use Rattle.rsvp_base.specs.declared.part.Part.{Part}
use Rattle.rsvp_base.specs.declared.session.Session.{Session}
use Rattle.rsvp_base.specs.declared.style.StyleKind.{StyleKind}
use Rattle.rsvp_base.specs.Members.{In}
use Rattle.rsvp_base.specs.Orders.{Names}
use Rattle.rsvp_base.specs.Table.{get}
use Rattle.rsvp_base.specs.TokenBucket.{TokenBucket}
use Rattle.rsvp_messages.specs.declared.message.Message.TheVariants as message
use Rattle.rsvp_messages.specs.declared.message.ResvMsg.{ResvMsg}
use Rattle.rsvp_messages.specs.declared.message.ResvTearMsg.{ResvTearMsg}
use Rattle.rsvp_messages.specs.Units.{ask_style, tear_style}
use Rattle.style_rules.specs.Parts.{IsPartAtMost}
use Rattle.router_rules.specs.Calls.{wanted}
use Rattle.router_rules.specs.Facts.{Facts, ResvState, Want, WantKey}
use Rattle.router_rules.specs.Inputs.{Spelt, WantAs}
use Rattle.router_rules.specs.Requests.{toward}
use Rattle.laws_steps.specs.ReservationLaws.{TakesName}
use Rattle.tree_model.specs.declared.hops.LinkHop.{LinkHop}
use Rattle.tree_model.specs.Goals.{addr_of}
use Rattle.tree_model.specs.Networks.{Net, node_of}
use Rattle.tree_model.specs.Ranks.{rank}
use Rattle.tree_model.specs.Trees.{hops_of}
use Rattle.network_model.specs.Laws.{config_in}
use Rattle.network_model.specs.Locals.{locals_of}
use Rattle.network_model.specs.Sound.{AreResvsSound, IsExact}
use Rattle.network_model.specs.Steps.{At, step}
use Rattle.network_model.specs.Worlds.{Item, World}
use Rattle.settle_resvs.specs.Said.{HopKey, IsOver, hop_over, lane_of, resv_key}
use Rattle.settle_resvs.specs.Sessions.{AreExactOf, HasNoFlowErrorOf, IsFreeOfBlockadesOf, SessionFits}
use Rattle.settle_resvs.specs.SoftResvs.{SaysResv, line_key_of, resv_at}
use Rattle.settle_passes.specs.Calls.{HasItsPaths}

-- ---- what goes back over a hop: a Resv of the key's session and style, or such a ResvTear that takes a name of the part
abbrev pub IsLetter : Net → HopKey → Part → Item → Type 0
IsLetter net k v y =
    ((m : ResvMsg) × (y.arrival ≡ Spelt (message.Resv m)) × IsOver net k y m.session m.hop.addr (ask_style m.ask))
    ⊎ ((m : ResvTearMsg) × (y.arrival ≡ Spelt (message.ResvTear m)) × IsOver net k y m.session m.hop.addr (tear_style m.tear) × TakesName m v)

-- each of them asks for the part
abbrev pub AllAsk : Net → HopKey → Part → List Item → Type 0
AllAsk net k v ys = (y : Item) → In y ys → IsLetter net k v y → SaysResv net (resv_key net k) y v

-- one of them does, and so do all that were sent later
abbrev pub IsAskedLast : Net → HopKey → Part → List Item → Type 0
IsAskedLast net k v [] = ⊥
IsAskedLast net k v (y ∷ ys) = IsAskedLast net k v ys ⊎ (SaysResv net (resv_key net k) y v × AllAsk net k v ys)

-- the part stands at the node that keeps
pub record IsKeptOver (w : World) (k : HopKey) (v : Part) : Type 0 where
  pub resv : ResvState
  pub there : resv_at w (node_of w.net.ends k.to) k.style (line_key_of w.net (resv_key w.net k)) ≡ Some resv
  pub is : resv.part ≡ v

-- what goes of the session from a node toward a hop of its group stands behind the hop, and nothing that is on its way there asks for
-- anything else; or it is on its way, and nothing that was sent later does
abbrev pub AreAskedFor : ℕ → Session → World → Type 0
AreAskedFor q s w =
    (k : HopKey) (v : Part) (f : Facts) → k.session ≡ s → In (hop_over k) (hops_of w.net.hops k.session.group) → slice_get w.nodes (node_of w.net.ends k.from) ≡ Some f
    → get (toward (config_in q w (node_of w.net.ends k.from)) f (lane_of w.net k)) k.unit ≡ Some v → (IsKeptOver w k v × AllAsk w.net k v w.flight) ⊎ IsAskedLast w.net k v w.flight

-- ---- a network that sets up the reservations of a session: it has its paths, no reservation and no Resv in flight says more than is
-- wanted, the session fits, nothing of it is refused or blockaded, and each node has asked for what goes from it
pub record IsReserving (q : ℕ) (s : Session) (w : World) : Type 0 where
  pub paths : HasItsPaths q w
  pub sound : AreResvsSound w
  pub fit : SessionFits w.net (locals_of w) s
  pub free : IsFreeOfBlockadesOf s w
  pub no_error : HasNoFlowErrorOf s w
  -- each Resv goes to the end whose address it is sent to
  pub addressed : (y : Item) (m : ResvMsg) → In y w.flight → y.arrival ≡ Spelt (message.Resv m) → y.dst ≡ addr_of w.net y.end
  pub asked : AreAskedFor q s w

-- reservations of the session are exact over hops from which no chain is longer
abbrev pub AreExactUpTo : Session → ℕ → World → Type 0
AreExactUpTo s n w = (st : StyleKind) (h : LinkHop) → In h (hops_of w.net.hops s.group) → rank w.net s.group h ≤ n → IsExact st w s h

-- they are exact over all, and no Resv of the session is in flight
pub record HasReserved (s : Session) (w : World) : Type 0 where
  pub exact : AreExactOf s w
  pub no_resv : (y : Item) (m : ResvMsg) → In y w.flight → y.arrival ≡ Spelt (message.Resv m) → m.session ≡ s → ⊥

-- ---- a receiver asks, at a node, without confirmation or with it
abbrev pub after_want : ℕ → ℕ → Session → StyleKind → Names → TokenBucket → Bool → World → World
after_want q n s st names flow confirm w = step q (At n (WantAs s st names flow confirm)) w

-- it asks for no less than before: each local want whose place a new one takes is at most that one. So it is where the receiver asks for
-- the first time, or for a larger flow
abbrev pub AsksNoLess : World → ℕ → Session → StyleKind → Names → TokenBucket → Bool → Type 0
AsksNoLess w n s st names flow confirm =
    (f : Facts) (k : WantKey) (old new : Want) → slice_get w.nodes n ≡ Some f → get f.wants k ≡ Some old → In (k, new) (wanted s st names flow confirm) → IsPartAtMost old.part new.part
