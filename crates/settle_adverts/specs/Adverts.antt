-- What the paths of senders keep in a settled network (RFC 2210, 3.3; RFC 2215, 3): of an advertised sender, at each node to which its tree
-- leads, the advertisement of the interfaces by which the tree leaves the nodes before it; of another sender nothing.
use Rattle.std.specs.Prelude.{◌≡◌, ℕ, Bool, false, cond, List, [], ◌∷◌, map as each, Option, Some, None, slice_get}
use Rattle.std.specs.Option.{option_and_then}
use Rattle.adspec_path.specs.Advertisement.{advertisement}
use Rattle.rsvp_base.specs.declared.iface.Iface.{Iface}
use Rattle.rsvp_base.specs.declared.session.Sender.{Sender}
use Rattle.rsvp_base.specs.Members.{In}
use Rattle.rsvp_base.specs.Sets.{Set}
use Rattle.rsvp_base.specs.Table.{get, has}
use Rattle.rsvp_base.specs.TokenBucket.{TokenBucket}
use Rattle.rsvp_messages.specs.RsvpObjects.declared.adspec.Adspec.{Adspec}
use Rattle.rsvp_messages.specs.declared.message.Message.TheVariants as message
use Rattle.rsvp_messages.specs.declared.message.PathMsg.{PathMsg}
use Rattle.router_rules.specs.Facts.{Facts, PathState, SenderKey, sender_keys}
use Rattle.router_rules.specs.Inputs.{Spelt}
use Rattle.tree_model.specs.declared.hops.LinkHop.{LinkHop}
use Rattle.tree_model.specs.Networks.{Net, node_of, owner}
use Rattle.tree_model.specs.Trees.{inward, tree}
use Rattle.network_model.specs.Locals.{IsLive}
use Rattle.network_model.specs.Sound.{IsPathAt}
use Rattle.network_model.specs.Worlds.{Item, World, ifaces_at}
use Rattle.laws_network.specs.Known.{advertised_at}
use Rattle.settle_adverts.specs.Ways.{way}

-- of these interfaces, the first that of the sender's own node: of none there is no advertisement
abbrev pub composed_of : List Iface → Option Adspec
composed_of [] = None
composed_of (first ∷ rest) = Some (advertisement first rest)

-- over these hops, by the interfaces by which they go out
abbrev pub advert_over : Net → List LinkHop → Option Adspec
advert_over net hs = composed_of (ifaces_at net.ends (each (λ h. h.from) hs))

-- ---- who is advertised
abbrev pub is_among : Option (Set sender_keys) → SenderKey → Bool
is_among None k = false
is_among (Some ks) k = has ks k

-- at the node that has the sender's address
abbrev pub is_advertised : World → SenderKey → Bool
is_advertised w k = is_among (option_and_then (advertised_at w) (owner w.net.ends k.1.addr)) k

-- what a path of a sender keeps at a node
abbrev pub advert_at : World → SenderKey → ℕ → Option Adspec
advert_at w k n = cond (is_advertised w k) (advert_over w.net (way w.net k.0.group k.1.addr n)) None

-- ---- exactly that is kept with each path, and carried by each Path in flight that comes to an end by which its sender's tree comes into
-- the node: others are not taken
pub record AreAdvertsExact (w : World) : Type 0 where
  pub kept : (n : ℕ) (f : Facts) (k : SenderKey) (x : PathState) → slice_get w.nodes n ≡ Some f → get f.paths k ≡ Some x → x.adspec ≡ advert_at w k n
  pub carried : (y : Item) (m : PathMsg) (x : Sender) (t : TokenBucket) → In y w.flight → y.arrival ≡ Spelt (message.Path m) → m.sender ≡ Some (x, t)
      → inward w.net (node_of w.net.ends y.end) m.session.group x.addr ≡ Some y.end → m.adspec ≡ advert_at w (m.session, x) (node_of w.net.ends y.end)

-- and a path is kept at each hop of the tree of each live sender
abbrev pub AreAdvertsThere : World → Type 0
AreAdvertsThere w =
    (k : SenderKey) (t : TokenBucket) (h : LinkHop) → IsLive w k t → In h (tree w.net.hops k.0.group k.1.addr)
    → (p : IsPathAt w k t h) × (p.path.adspec ≡ advert_at w k (node_of w.net.ends h.to))
