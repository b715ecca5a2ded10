-- Path state at the end of a hop of a sender's tree: which datagrams can touch it, for how long a Path sets it, and how far paths
-- are complete.
use Rattle.std.specs.Prelude.{◌≡◌, ℕ, ◌+◌, ◌*◌, ◌/◌, ◌≤◌, ◌==◌, ◌&&◌, max, min, Bool, false, Option, None, Some}
use Rattle.std.specs.Ordering.{eq_by_cmp}
use Rattle.rsvp_base.specs.declared.session.Sender.{Sender}
use Rattle.rsvp_base.specs.declared.session.Session.{Session}
use Rattle.rsvp_base.specs.Members.{In}
use Rattle.rsvp_base.specs.TokenBucket.{TokenBucket}
use Rattle.rsvp_messages.specs.declared.message.Message.{Message}
use Rattle.rsvp_messages.specs.declared.message.Message.TheVariants as message
use Rattle.tree_model.specs.Goals.{addr_of}
use Rattle.router_rules.specs.Facts.{SenderKey, sender_keys}
use Rattle.router_rules.specs.Inputs.{Arrival, Spelt, Unspelt}
use Rattle.tree_model.specs.declared.hops.LinkHop.{LinkHop}
use Rattle.tree_model.specs.Networks.{node_of, iface_of}
use Rattle.tree_model.specs.Trees.{tree, depth}
use Rattle.network_model.specs.Locals.{IsLive}
use Rattle.network_model.specs.Sound.{ArePathsSound}
use Rattle.network_model.specs.Steps.{sender_of}
use Rattle.network_model.specs.Worlds.{Item, World}
use Rattle.laws_network.specs.Known.{IsKnown}
use Rattle.settle_paths.specs.SoftPaths.{path_at, by_iface}

-- ---- letters: Paths and PathTears of the key that come to the end
abbrev pub is_of : SenderKey → Session → Option Sender → Bool
is_of k s None = false
is_of k s (Some x) = eq_by_cmp sender_keys.cmp (s, x) k

abbrev pub letter_message : SenderKey → Message → Bool
letter_message k (message.Path m) = is_of k m.session (sender_of m.sender)
letter_message k (message.PathTear m) = is_of k m.session m.sender
letter_message k _ = false

abbrev pub letter_arrival : SenderKey → Arrival → Bool
letter_arrival k (Spelt m) = letter_message k m
letter_arrival k (Unspelt e) = false

abbrev pub is_letter : SenderKey → ℕ → Item → Bool
is_letter k e y = (y.end == e) && letter_arrival k y.arrival

-- how long path state lives that a Path sets
abbrev pub life_of_message : ℕ → Message → ℕ
life_of_message q (message.Path m) = (21 * max 1 (min m.period (4 * q)) + 3) / 4
life_of_message q _ = 0

abbrev pub life_of : ℕ → Arrival → ℕ
life_of q (Spelt m) = life_of_message q m
life_of q (Unspelt e) = 0

-- ---- paths are complete to a depth: at each hop of a live sender's tree to a node that is so many hops from the root at most
abbrev pub IsCompleteTo : World → ℕ → World → Type 0
IsCompleteTo o d u =
    (k : SenderKey) (t : TokenBucket) (h : LinkHop) → IsLive o k t → In h (tree o.net.hops k.0.group k.1.addr) → depth o.net k.0.group k.1.addr (node_of o.net.ends h.to) ≤ d
    → (dies : ℕ) × (by_iface (iface_of o.net.ends h.to) (path_at u (node_of o.net.ends h.to) k) ≡ Some ((addr_of o.net h.from, t), dies))

-- ---- a known world in which paths are sound, and complete to a depth
pub record IsSure (q : ℕ) (o : World) (d : ℕ) (u : World) : Type 0 where
  pub known : IsKnown q o u
  pub sound : ArePathsSound u
  pub complete : IsCompleteTo o d u
