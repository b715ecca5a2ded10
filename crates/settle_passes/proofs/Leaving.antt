-- A sender that has ended: what is left of it in a network, and what takes it away.
use Rattle.std.proofs.Common.{◌≡◌, ℕ, ◌⊎◌, true, None, Some}
use Rattle.std.specs.Prelude.{slice_get}
use Rattle.rsvp_base.specs.Members.{In}
use Rattle.rsvp_base.specs.Table.{get}
use Rattle.rsvp_base.specs.TokenBucket.{TokenBucket}
use Rattle.rsvp_messages.specs.declared.message.Message.TheVariants as message
use Rattle.rsvp_messages.specs.declared.message.PathMsg.{PathMsg}
use Rattle.rsvp_messages.specs.declared.message.PathTearMsg.{PathTearMsg}
use Rattle.router_rules.specs.Facts.{Facts, PathState, SenderKey}
use Rattle.router_rules.specs.Inputs.{Spelt}
use Rattle.tree_model.specs.declared.hops.LinkHop.{LinkHop}
use Rattle.tree_model.specs.Goals.{addr_of}
use Rattle.tree_model.specs.Networks.{iface_of, node_of}
use Rattle.tree_model.specs.Trees.{tree}
use Rattle.network_model.specs.Bounds.{AreBounds, AreHosts}
use Rattle.network_model.specs.Links.{is_group}
use Rattle.network_model.specs.Sound.{ArePathsComplete}
use Rattle.network_model.specs.Worlds.{Item, World}
use Rattle.settle_passes.specs.Calls.{IsNew}
use Rattle.settle_passes.specs.Passes.{Knows}
use Rattle.settle_passes.proofs.Deliveries.{AreSoundOf}

-- ---- a path that came over a hop of its tree
pub record IsLeftAt (w : World) (n : ℕ) (k : SenderKey) (x : PathState) : Type 0 where
  pub hop : LinkHop
  pub there : In hop (tree w.net.hops k.0.group k.1.addr)
  pub node : node_of w.net.ends hop.to ≡ n
  pub iface : x.iface ≡ iface_of w.net.ends hop.to
  pub from : x.hop.addr ≡ addr_of w.net hop.from

-- a PathTear of the sender goes over the hop
pub record IsTearOver (w : World) (k : SenderKey) (h : LinkHop) : Type 0 where
  pub item : Item
  pub flight : In item w.flight
  pub end : item.end ≡ h.to
  pub dst : item.dst ≡ k.0.group
  pub tear : PathTearMsg
  pub spelt : item.arrival ≡ Spelt (message.PathTear tear)
  pub session : tear.session ≡ k.0
  pub sender : tear.sender ≡ Some k.1
  pub hop : tear.hop.addr ≡ addr_of w.net h.from

-- ---- a sender that fades: nobody sends as it, all others have their paths, and over each hop behind which a path of it is left the
-- node before knows it still, or a PathTear is on its way
pub record IsFading (q : ℕ) (d : SenderKey) (w : World) : Type 0 where
  pub bounds : AreBounds q w
  pub hosts : AreHosts w
  pub group : is_group d.0.group ≡ true
  pub gone : IsNew w d
  pub sound : (k : SenderKey) → (k ≡ d → ⊥) → AreSoundOf w k
  pub named : (y : Item) (m : PathMsg) → In y w.flight → y.arrival ≡ Spelt (message.Path m) → m.sender ≡ None → ⊥
  pub complete : ArePathsComplete w
  -- PathTears in flight are of it, and no Path is
  pub tears : (y : Item) (m : PathTearMsg) → In y w.flight → y.arrival ≡ Spelt (message.PathTear m) → (m.session ≡ d.0) × (m.sender ≡ Some d.1)
  pub silent : (y : Item) (m : PathMsg) (t : TokenBucket) → In y w.flight → y.arrival ≡ Spelt (message.Path m) → m.session ≡ d.0 → m.sender ≡ Some (d.1, t) → ⊥
  pub left : (n : ℕ) (f : Facts) (x : PathState) → slice_get w.nodes n ≡ Some f → get f.paths d ≡ Some x → IsLeftAt w n d x
  pub fading : (h : LinkHop) (f : Facts) (x : PathState) → In h (tree w.net.hops d.0.group d.1.addr) → slice_get w.nodes (node_of w.net.ends h.to) ≡ Some f → get f.paths d ≡ Some x
      → Knows w (node_of w.net.ends h.from) d ⊎ IsTearOver w d h
