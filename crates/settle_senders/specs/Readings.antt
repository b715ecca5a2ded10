-- What is read of a sender over each hop of its tree, as its ADSPEC or its flow: what a path keeps of it, what a Path carries, and what a node offers
-- by an end. And what the node before a hop offers now is kept behind the hop once all that is on its way has arrived.
use Rattle.std.specs.Prelude.{◌≡◌, ℕ, ◌==◌, cond, Option, Some, None, List, [], ◌∷◌, slice_get}
use Rattle.std.specs.Option.{option_and_then, option_map}
use Rattle.std.specs.Ordering.{eq_by_cmp}
use Rattle.rsvp_base.specs.declared.addr.Addr.{Addr}
use Rattle.rsvp_base.specs.declared.iface.Iface.{Iface}
use Rattle.rsvp_base.specs.declared.session.Sender.{Sender}
use Rattle.rsvp_base.specs.Members.{In}
use Rattle.rsvp_base.specs.Table.{get}
use Rattle.rsvp_base.specs.TokenBucket.{TokenBucket}
use Rattle.rsvp_messages.specs.declared.message.Message.{Message}
use Rattle.rsvp_messages.specs.declared.message.Message.TheVariants as message
use Rattle.rsvp_messages.specs.declared.message.PathMsg.{PathMsg}
use Rattle.style_rules.specs.Toward.{or_else}
use Rattle.router_rules.specs.Facts.{Facts, PathState, SenderKey, sender_keys}
use Rattle.router_rules.specs.Inputs.{Arrival, Spelt, Unspelt}
use Rattle.router_rules.specs.Offers.{Offer, OfferKey, offer_at}
use Rattle.tree_model.specs.declared.hops.LinkHop.{LinkHop}
use Rattle.tree_model.specs.Networks.{Net, end_at, iface_of, node_of, peers}
use Rattle.tree_model.specs.Trees.{inward, outward, tree}
use Rattle.network_model.specs.Bounds.{AreBounds, AreHosts}
use Rattle.network_model.specs.Locals.{IsLive}
use Rattle.network_model.specs.Sound.{IsPathAt, IsSoundAt}
use Rattle.network_model.specs.Worlds.{Item, World}
use Rattle.settle_paths.specs.SoftPaths.{path_at}
use Rattle.settle_passes.specs.Passes.{HasNoPathTear}

-- of a path, of a Path with this flow of its sender, and of an offer that goes out by this interface
pub record Reading (A : Type 0) : Type 0 where
  pub kept : PathState → A
  pub carried : PathMsg → TokenBucket → A
  pub offered : Option Iface → Offer → A

-- ---- what the path at a node keeps: where there is none, nothing
abbrev pub kept_at : {A : Type 0} → Reading A → World → SenderKey → ℕ → Option A
kept_at r w k n = option_map r.kept (path_at w n k)

-- ---- what a Path carries of a sender to an end: of another sender, and another message, nothing
abbrev pub carried_of : {A : Type 0} → Reading A → SenderKey → PathMsg → Option (Sender × TokenBucket) → Option A
carried_of r k m None = None
carried_of r k m (Some e) = cond (eq_by_cmp sender_keys.cmp (m.session, e.0) k) (Some (r.carried m e.1)) None

abbrev pub carried_in : {A : Type 0} → Reading A → SenderKey → Message → Option A
carried_in r k (message.Path m) = carried_of r k m m.sender
carried_in r k (message.Resv m) = None
carried_in r k (message.PathErr m) = None
carried_in r k (message.ResvErr m) = None
carried_in r k (message.PathTear m) = None
carried_in r k (message.ResvTear m) = None
carried_in r k (message.ResvConf m) = None

abbrev pub carried_by : {A : Type 0} → Reading A → SenderKey → Arrival → Option A
carried_by r k (Spelt m) = carried_in r k m
carried_by r k (Unspelt e) = None

abbrev pub carried_to : {A : Type 0} → Reading A → SenderKey → ℕ → Item → Option A
carried_to r k e y = cond (y.end == e) (carried_by r k y.arrival) None

-- ---- what is kept once all of these have arrived at the end, in this order: what the last one carries, and where none carries anything what there was
abbrev pub kept_after : {A : Type 0} → Reading A → SenderKey → ℕ → Option A → List Item → Option A
kept_after r k e now [] = now
kept_after r k e now (y ∷ ys) = kept_after r k e (or_else (carried_to r k e y) now) ys

-- ---- what the node of an end offers of a sender by that end: where it does not know the sender, nothing
abbrev pub key_at : Net → SenderKey → ℕ → OfferKey
key_at net k e = record { session = k.0; sender = k.1; iface = iface_of net.ends e }

abbrev pub offered_by : {A : Type 0} → Reading A → World → SenderKey → ℕ → Option A
offered_by r w k e =
    option_map (r.offered (option_map (λ x. x.iface) (slice_get w.net.ends e)))
    (option_and_then (λ f. offer_at f (key_at w.net k e)) (slice_get w.nodes (node_of w.net.ends e)))

-- over each hop of a tree: that is kept behind it once all has arrived
abbrev pub AreOffersKept : {A : Type 0} → Reading A → World → Type 0
AreOffersKept r w =
    (k : SenderKey) (h : LinkHop) (a : _) → In h (tree w.net.hops k.0.group k.1.addr) → offered_by r w k h.from ≡ Some a
    → kept_after r k h.to (kept_at r w k (node_of w.net.ends h.to)) w.flight ≡ Some a

-- ---- where a Path in flight came from: an end by which the sender's tree leaves a node; and it goes to its group
pub record IsPathFrom (net : Net) (y : Item) (m : PathMsg) (x : Sender) : Type 0 where
  pub dst : y.dst ≡ m.session.group
  pub end : ℕ
  pub leaves : In end (outward net (node_of net.ends end) m.session.group x.addr)
  pub to : In y.end (peers net.links end)

abbrev pub IsFromATree : Net → Item → Type 0
IsFromATree net y = (m : PathMsg) (x : Sender) (t : TokenBucket) → y.arrival ≡ Spelt (message.Path m) → m.sender ≡ Some (x, t) → IsPathFrom net y m x

-- ---- paths that are sound but for their flows: each is of a live sender, by the hop of the sender's tree, whatever flow it keeps; and so is each
-- Path in flight that comes in by its sender's tree, and each Path names a sender
abbrev pub IsOnTheTree : World → SenderKey → ℕ → Addr → Type 0
IsOnTheTree w k e a = (t : TokenBucket) × IsSoundAt w k e (a, t)

pub record IsPathOnTheTree (w : World) (n : ℕ) (k : SenderKey) (x : PathState) : Type 0 where
  pub end : ℕ
  pub at : end_at w.net.ends n x.iface ≡ Some end
  pub sound : IsOnTheTree w k end x.hop.addr

pub record ArePathsOnTheTree (w : World) : Type 0 where
  pub facts : (n : ℕ) (f : Facts) (k : SenderKey) (x : PathState) → slice_get w.nodes n ≡ Some f → get f.paths k ≡ Some x → IsPathOnTheTree w n k x
  pub items : (y : Item) (m : PathMsg) (x : Sender) (t : TokenBucket) → In y w.flight → y.arrival ≡ Spelt (message.Path m) → m.sender ≡ Some (x, t)
      → inward w.net (node_of w.net.ends y.end) m.session.group x.addr ≡ Some y.end → IsOnTheTree w (m.session, x) y.end m.hop.addr
  pub named : (y : Item) (m : PathMsg) → In y w.flight → y.arrival ≡ Spelt (message.Path m) → m.sender ≡ None → ⊥

-- over each hop of a live sender's tree there is a path of it, with whatever flow
abbrev pub ArePathsThere : World → Type 0
ArePathsThere w = (k : SenderKey) (t : TokenBucket) (h : LinkHop) → IsLive w k t → In h (tree w.net.hops k.0.group k.1.addr) → (kept : TokenBucket) × IsPathAt w k kept h

-- a world within bounds with hosts, in which paths are on the trees, no PathTear is in flight, and each Path in flight comes from an end of its
-- sender's tree
pub record AreRooted (q : ℕ) (w : World) : Type 0 where
  pub bounds : AreBounds q w
  pub hosts : AreHosts w
  pub paths : ArePathsOnTheTree w
  pub no_tear : HasNoPathTear w
  pub from : (y : Item) → In y w.flight → IsFromATree w.net y
