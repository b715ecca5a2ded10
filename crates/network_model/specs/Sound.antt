-- What nodes keep and send when a network has settled: sound and complete paths, sound and exact reservations.
use Rattle.std.specs.Prelude.{◌≡◌, ℕ, ◌<◌, true, slice_get, None, Some}
use Rattle.rsvp_base.specs.declared.addr.Addr.{Addr}
use Rattle.rsvp_base.specs.declared.part.Part.{Part}
use Rattle.rsvp_base.specs.declared.session.Sender.{Sender}
use Rattle.rsvp_base.specs.declared.session.Session.{Session}
use Rattle.rsvp_base.specs.declared.style.StyleKind.{StyleKind}
use Rattle.rsvp_base.specs.declared.style.Unit.{Unit as UnitOf}
use Rattle.rsvp_base.specs.Members.{In}
use Rattle.rsvp_base.specs.Orders.{Names}
use Rattle.rsvp_base.specs.Table.{get, size}
use Rattle.rsvp_base.specs.TokenBucket.{TokenBucket}
use Rattle.router_examples.specs.RsvpMessages.declared.message.Message.TheVariants as message
use Rattle.router_examples.specs.RsvpMessages.declared.message.PathMsg.{PathMsg}
use Rattle.router_examples.specs.RsvpMessages.declared.message.ResvErrMsg.{ResvErrMsg}
use Rattle.router_examples.specs.RsvpMessages.declared.message.ResvMsg.{ResvMsg}
use Rattle.router_examples.specs.RsvpMessages.Units.{AskedUnit, ask_style, asked_units}
use Rattle.tree_model.specs.Goals.{addr_of}
use Rattle.tree_model.specs.Wants.{want}
use Rattle.router_examples.specs.RouterRules.Facts.{Facts, SenderKey, PathState, ResvState, resvs_of}
use Rattle.router_examples.specs.RouterRules.Inputs.{Spelt}
use Rattle.tree_model.specs.Lines.{LineKey}
use Rattle.tree_model.specs.Parts.{part_le}
use Rattle.tree_model.specs.declared.hops.LinkHop.{LinkHop}
use Rattle.tree_model.specs.Networks.{node_of, end_at, iface_of}
use Rattle.tree_model.specs.Trees.{tree, hops_of, inward}
use Rattle.network_model.specs.Locals.{IsLive, locals_of}
use Rattle.network_model.specs.Steps.{Step, arrived, outcome}
use Rattle.network_model.specs.Worlds.{Item, World}

-- ---- paths
-- at this end, for a sender of a session, this hop address and flow: a hop of the sender's tree comes here from an end with
-- the address, and the sender is live and sends the flow
pub record IsSoundAt (w : World) (k : SenderKey) (e : ℕ) (v : Addr × TokenBucket) : Type 0 where
  pub hop : LinkHop
  pub there : In hop (tree w.net.hops k.0.group k.1.addr)
  pub to : hop.to ≡ e
  pub from : v.0 ≡ addr_of w.net hop.from
  pub live : IsLive w k v.1

-- a path fact, at the end that is its interface
pub record IsSoundPath (w : World) (n : ℕ) (k : SenderKey) (x : PathState) : Type 0 where
  pub end : ℕ
  pub at : end_at w.net.ends n x.iface ≡ Some end
  pub sound : IsSoundAt w k end (x.hop.addr, x.tspec)

-- every path fact, and every Path in flight by whose end its sender's tree comes to the node; and each Path has a sender
pub record ArePathsSound (w : World) : Type 0 where
  pub facts : (n : ℕ) (f : Facts) (k : SenderKey) (x : PathState) → slice_get w.nodes n ≡ Some f → get f.paths k ≡ Some x → IsSoundPath w n k x
  pub items : (y : Item) (m : PathMsg) (x : Sender) (t : TokenBucket) → In y w.flight → y.arrival ≡ Spelt (message.Path m) → m.sender ≡ Some (x, t)
      → inward w.net (node_of w.net.ends y.end) m.session.group x.addr ≡ Some y.end → IsSoundAt w (m.session, x) y.end (m.hop.addr, t)
  pub named : (y : Item) (m : PathMsg) → In y w.flight → y.arrival ≡ Spelt (message.Path m) → m.sender ≡ None → ⊥

-- a live sender has its fact at a hop of its tree
pub record IsPathAt (w : World) (k : SenderKey) (t : TokenBucket) (h : LinkHop) : Type 0 where
  pub facts : Facts
  pub node : slice_get w.nodes (node_of w.net.ends h.to) ≡ Some facts
  pub path : PathState
  pub there : get facts.paths k ≡ Some path
  pub iface : path.iface ≡ iface_of w.net.ends h.to
  pub hop : path.hop.addr ≡ addr_of w.net h.from
  pub tspec : path.tspec ≡ t

-- at each hop of its tree
abbrev pub ArePathsComplete : World → Type 0
ArePathsComplete w = (k : SenderKey) (t : TokenBucket) (h : LinkHop) → IsLive w k t → In h (tree w.net.hops k.0.group k.1.addr) → IsPathAt w k t h

-- ---- reservations
-- at this end, from a next hop of this address: the part names someone, and what is wanted over a hop to there has a part of
-- its unit that is at least the part
pub record IsSoundPart (st : StyleKind) (w : World) (s : Session) (e : ℕ) (next : Addr) (u : UnitOf) (p : Part) : Type 0 where
  pub some : 0 < size p.senders
  pub hop : LinkHop
  pub there : In hop (hops_of w.net.hops s.group)
  pub from : hop.from ≡ e
  pub to : addr_of w.net hop.to ≡ next
  pub wanted : Part
  pub is : get (want st w.net (locals_of w) s hop) u ≡ Some wanted
  pub below : part_le p wanted ≡ true

pub record IsSoundResv (st : StyleKind) (w : World) (n : ℕ) (k : LineKey) (r : ResvState) : Type 0 where
  pub end : ℕ
  pub at : end_at w.net.ends n k.1.0.0 ≡ Some end
  pub sound : IsSoundPart st w k.0 end k.1.0.1 k.1.1 r.part

-- a unit of a Resv, as a reservation of its end; without names it is not sound
pub record IsSoundUnit (w : World) (y : Item) (m : ResvMsg) (u : AskedUnit) : Type 0 where
  pub names : Names
  pub named : u.names ≡ Some names
  pub sound : IsSoundPart (ask_style m.ask) w m.session y.end m.hop.addr u.unit (record { senders = names; flow = u.flow })

-- every reservation, and every unit of a Resv in flight
pub record AreResvsSound (w : World) : Type 0 where
  pub facts : (st : StyleKind) (n : ℕ) (f : Facts) (k : LineKey) (r : ResvState) → slice_get w.nodes n ≡ Some f → get (resvs_of st f) k ≡ Some r → IsSoundResv st w n k r
  pub items : (y : Item) (m : ResvMsg) (u : AskedUnit) → In y w.flight → y.arrival ≡ Spelt (message.Resv m) → In u (asked_units m.ask) → IsSoundUnit w y m u

-- what is wanted over a hop of a style and session is what stands for it, unit by unit
pub record IsExact (st : StyleKind) (w : World) (s : Session) (h : LinkHop) : Type 0 where
  pub facts : Facts
  pub node : slice_get w.nodes (node_of w.net.ends h.from) ≡ Some facts
  pub wanted : (u : UnitOf) (p : Part) → get (want st w.net (locals_of w) s h) u ≡ Some p
      → (r : ResvState) × (get (resvs_of st facts) (s, ((iface_of w.net.ends h.from, addr_of w.net h.to), u)) ≡ Some r) × (r.part ≡ p)
  pub stands : (u : UnitOf) (r : ResvState) → get (resvs_of st facts) (s, ((iface_of w.net.ends h.from, addr_of w.net h.to), u)) ≡ Some r
      → get (want st w.net (locals_of w) s h) u ≡ Some r.part

abbrev pub AreResvsExact : World → Type 0
AreResvsExact w = (st : StyleKind) (s : Session) (h : LinkHop) → In h (hops_of w.net.hops s.group) → IsExact st w s h

-- ---- no refusal and no blockade is left
-- each unit of each Resv that arrives by the step stands at the node to which it comes as it was asked for: none is refused,
-- left out or cut
abbrev pub TakesAll : ℕ → Step → World → Type 0
TakesAll q s w =
    (y : Item) (m : ResvMsg) (f : Facts) (u : AskedUnit) → arrived s w ≡ Some y → y.arrival ≡ Spelt (message.Resv m) → slice_get w.nodes (node_of w.net.ends y.end) ≡ Some f → In u (asked_units m.ask)
    → (r : ResvState)
    × (get (resvs_of (ask_style m.ask) (outcome q s w (node_of w.net.ends y.end) f).facts) (m.session, ((iface_of w.net.ends y.end, m.hop.addr), u.unit))
    ≡ Some r) × (u.names ≡ Some r.part.senders) × (u.flow ≡ r.part.flow)

-- no ResvErr with a flow is in flight: none that sets a blockade
abbrev pub HasNoFlowError : World → Type 0
HasNoFlowError w = (y : Item) (m : ResvErrMsg) → In y w.flight → y.arrival ≡ Spelt (message.ResvErr m) → m.blame.flow ≡ None

pub record IsFreeOfBlockade (w : World) : Type 0 where
  pub walls : (n : ℕ) (f : Facts) → slice_get w.nodes n ≡ Some f → size f.walls ≡ 0
