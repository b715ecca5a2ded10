-- Paths of a network that are refreshed as RFC 2205 asks (3.7), and paths that live until the third refresh from now on may arrive.
use Rattle.std.specs.Prelude.{◌≡◌, ℕ, ◌+◌, ◌*◌, ◌≤◌, List, Some}
use Rattle.rsvp_base.specs.declared.session.Sender.{Sender}
use Rattle.rsvp_base.specs.Members.{In}
use Rattle.rsvp_base.specs.TokenBucket.{TokenBucket}
use Rattle.rsvp_messages.specs.declared.message.Message.TheVariants as message
use Rattle.rsvp_messages.specs.declared.message.PathMsg.{PathMsg}
use Rattle.rsvp_messages.specs.declared.message.PathTearMsg.{PathTearMsg}
use Rattle.calm_rounds.specs.Loss.{IsRefreshed}
use Rattle.router_rules.specs.Facts.{SenderKey}
use Rattle.router_rules.specs.Inputs.{Spelt}
use Rattle.tree_model.specs.declared.hops.LinkHop.{LinkHop}
use Rattle.tree_model.specs.Goals.{addr_of}
use Rattle.tree_model.specs.Networks.{Net, node_of, iface_of}
use Rattle.tree_model.specs.Trees.{tree}
use Rattle.network_model.specs.Locals.{IsLive}
use Rattle.network_model.specs.Steps.{Step, Track, OfSender, machine}
use Rattle.network_model.specs.Worlds.{Item, World}
use Rattle.laws_network.specs.Refreshes.{due_at}
use Rattle.settle_paths.specs.SoftPaths.{path_at, by_iface}

-- the track of a sender's Paths over a hop
abbrev pub path_over : Net → SenderKey → LinkHop → Track
path_over net k h = record { from = addr_of net h.from; to = h.to; session = k.0; key = OfSender k.1 }

-- over each hop of each tree of a sender that is live in the world o, of any three successive Paths one arrives in time
abbrev pub ArePathsRefreshedIn : ℕ → World → List Step → World → Type 0
ArePathsRefreshedIn q o ss w =
    (k : SenderKey) (t : TokenBucket) (h : LinkHop) → IsLive o k t → In h (tree o.net.hops k.0.group k.1.addr)
    → IsRefreshed (machine q) (λ u. due_at u (node_of o.net.ends h.from) k.0) (Some (path_over o.net k h)) ss w

-- of a sender that is live at the start, as it then stays
abbrev pub ArePathsRefreshed : ℕ → List Step → World → Type 0
ArePathsRefreshed q ss w = ArePathsRefreshedIn q w ss w

-- the path of a live sender stands at the end of the hop, and lives 15 quarters of a period from the moment on at which the node
-- before the hop refreshes next
pub record DoesPathLast (q : ℕ) (w : World) (k : SenderKey) (t : TokenBucket) (h : LinkHop) : Type 0 where
  pub dies : ℕ
  pub kept : by_iface (iface_of w.net.ends h.to) (path_at w (node_of w.net.ends h.to) k) ≡ Some ((addr_of w.net h.from, t), dies)
  pub moment : ℕ
  pub due : due_at w (node_of w.net.ends h.from) k.0 ≡ Some moment
  pub long : moment + 15 * q ≤ dies

abbrev pub DoPathsLast : ℕ → World → Type 0
DoPathsLast q w = (k : SenderKey) (t : TokenBucket) (h : LinkHop) → IsLive w k t → In h (tree w.net.hops k.0.group k.1.addr) → DoesPathLast q w k t h

-- what is in flight is in order: each Path goes to its group, for a full lifetime, and no PathTear of a live sender goes over a hop
-- of its tree. So it is where nothing is in flight
pub record IsInOrder (q : ℕ) (w : World) : Type 0 where
  pub paths : (y : Item) (m : PathMsg) → In y w.flight → y.arrival ≡ Spelt (message.Path m) → (m.period ≡ 4 * q) × (y.dst ≡ m.session.group)
  pub tears : (y : Item) (m : PathTearMsg) (x : Sender) (t : TokenBucket) (h : LinkHop) → In y w.flight → y.arrival ≡ Spelt (message.PathTear m) → m.sender ≡ Some x
      → IsLive w (m.session, x) t → In h (tree w.net.hops m.session.group x.addr) → y.end ≡ h.to → ⊥
