-- Passes: what is in flight is delivered, one datagram after the other, and no time goes by. How paths spread by them.
use Rattle.std.specs.Prelude.{◌≡◌, ℕ, ◌≤◌, ◌⊎◌, true, Some, slice_get}
use Rattle.rsvp_base.specs.Members.{In}
use Rattle.rsvp_base.specs.Table.{has}
use Rattle.rsvp_base.specs.TokenBucket.{TokenBucket}
use Rattle.rsvp_messages.specs.declared.message.Message.TheVariants as message
use Rattle.rsvp_messages.specs.declared.message.PathMsg.{PathMsg}
use Rattle.rsvp_messages.specs.declared.message.PathTearMsg.{PathTearMsg}
use Rattle.calm_rounds.specs.Machine.{run}
use Rattle.router_rules.specs.Facts.{Facts, SenderKey}
use Rattle.router_rules.specs.Inputs.{Spelt}
use Rattle.router_rules.specs.Known.{known}
use Rattle.tree_model.specs.declared.hops.LinkHop.{LinkHop}
use Rattle.tree_model.specs.Networks.{node_of}
use Rattle.tree_model.specs.Trees.{tree, depth}
use Rattle.network_model.specs.Bounds.{AreBounds, AreHosts}
use Rattle.network_model.specs.Events.{passes}
use Rattle.network_model.specs.Locals.{IsLive}
use Rattle.network_model.specs.Sound.{ArePathsSound, IsPathAt}
use Rattle.network_model.specs.Steps.{machine}
use Rattle.network_model.specs.Worlds.{Item, World}

-- the world after so many passes, with this quarter of a refresh period
abbrev pub after_passes : ℕ → ℕ → World → World
after_passes q n w = run (machine q) (passes q n w) w

-- ---- what is in flight
-- nothing tears a path down
abbrev pub HasNoPathTear : World → Type 0
HasNoPathTear w = (y : Item) (m : PathTearMsg) → In y w.flight → y.arrival ≡ Spelt (message.PathTear m) → ⊥

-- a Path of the sender, with its flow, goes over the hop
pub record IsPathOver (w : World) (k : SenderKey) (t : TokenBucket) (h : LinkHop) : Type 0 where
  pub item : Item
  pub flight : In item w.flight
  pub end : item.end ≡ h.to
  pub dst : item.dst ≡ k.0.group
  pub path : PathMsg
  pub spelt : item.arrival ≡ Spelt (message.Path path)
  pub session : path.session ≡ k.0
  pub sender : path.sender ≡ Some (k.1, t)

-- ---- paths that spread
-- the node knows the sender: it is its own, or it has its path
pub record Knows (w : World) (n : ℕ) (k : SenderKey) : Type 0 where
  pub facts : Facts
  pub there : slice_get w.nodes n ≡ Some facts
  pub known_one : has (known facts k.0) k.1 ≡ true

-- over each hop of a live sender's tree before which its node knows the sender: the path stands behind the hop, or a Path is on its way
abbrev pub ArePathsOffered : World → Type 0
ArePathsOffered w =
    (k : SenderKey) (t : TokenBucket) (h : LinkHop) → IsLive w k t → In h (tree w.net.hops k.0.group k.1.addr) → Knows w (node_of w.net.ends h.from) k → IsPathAt w k t h ⊎ IsPathOver w k t h

-- a world within bounds with sound paths, in which each node has offered what it knows and nothing is torn down
pub record AreSpreading (q : ℕ) (w : World) : Type 0 where
  pub bounds : AreBounds q w
  pub hosts : AreHosts w
  pub sound : ArePathsSound w
  pub no_tear : HasNoPathTear w
  pub offered : ArePathsOffered w

-- paths are complete to a depth: at each hop of a live sender's tree to a node that is so many hops from the root at most
abbrev pub AreCompleteTo : ℕ → World → Type 0
AreCompleteTo d w =
    (k : SenderKey) (t : TokenBucket) (h : LinkHop) → IsLive w k t → In h (tree w.net.hops k.0.group k.1.addr) → depth w.net k.0.group k.1.addr (node_of w.net.ends h.to) ≤ d → IsPathAt w k t h
