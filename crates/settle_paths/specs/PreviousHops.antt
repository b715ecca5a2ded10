-- Previous hops are hops of trees: what is behind one, and who is known.
use Rattle.std.specs.Prelude.{◌≡◌, ◌⊎◌, ◌↔◌, ℕ, true, [], ◌∷◌, Some, slice_get}
use Rattle.rsvp_base.specs.declared.addr.Addr.{Addr}
use Rattle.rsvp_base.specs.declared.session.Sender.{Sender}
use Rattle.rsvp_base.specs.declared.session.Session.{Session}
use Rattle.rsvp_base.specs.Members.{In}
use Rattle.rsvp_base.specs.Sets.{IsWithin}
use Rattle.rsvp_base.specs.Table.{has}
use Rattle.style_rules.specs.Lines.{NextHop}
use Rattle.tree_model.specs.Goals.{addr_of}
use Rattle.tree_model.specs.Wants.{live, names}
use Rattle.router_rules.specs.Facts.{Facts}
use Rattle.router_rules.specs.Known.{Lane, known, names_via}
use Rattle.laws_bounds.specs.FactLaws.{ComesBy}
use Rattle.tree_model.specs.declared.hops.LinkHop.{LinkHop}
use Rattle.tree_model.specs.Networks.{Net, node_of, iface_of, owner}
use Rattle.tree_model.specs.Trees.{tree, hops_of, inward}
use Rattle.network_model.specs.Locals.{locals_of}
use Rattle.network_model.specs.Worlds.{World}

-- a hop of the session's group comes into the node by the interface of this previous hop, from its address
pub record IsPrevious (net : Net) (n : ℕ) (s : Session) (hop : NextHop) (h : LinkHop) : Type 0 where
  pub there : In h (hops_of net.hops s.group)
  pub node : node_of net.ends h.to ≡ n
  pub iface : iface_of net.ends h.to ≡ hop.0
  pub addr : addr_of net h.from ≡ hop.1

-- what comes from a previous hop comes over a hop of the sender's tree, and the sender is live
pub record IsAhead (w : World) (n : ℕ) (s : Session) (hop : NextHop) (x : Sender) : Type 0 where
  pub way : LinkHop
  pub there : In way (tree w.net.hops s.group x.addr)
  pub previous : IsPrevious w.net n s hop way
  pub live : In x (live (locals_of w) s)

-- ---- where paths are sound: each previous hop is a tree hop, one at most, and the senders via it are names of the hop
pub record ArePreviousHops (w : World) : Type 0 where
  pub ahead : (n : ℕ) (f : Facts) (s : Session) (hop : NextHop) (x : Sender) → slice_get w.nodes n ≡ Some f → ComesBy f s hop x → IsAhead w n s hop x
  pub one : (n : ℕ) (s : Session) (hop : NextHop) (h h' : LinkHop) → IsPrevious w.net n s hop h → IsPrevious w.net n s hop h' → h ≡ h'
  pub within : (n : ℕ) (f : Facts) (l : Lane) (h : LinkHop) → slice_get w.nodes n ≡ Some f → IsPrevious w.net n l.session l.hop h
      → IsWithin (names_via f l) (names l.style w.net (locals_of w) l.session (h ∷ []))

-- ---- where they are complete too: the senders via it are exactly the names of the hop, and who is known is exactly who is live
-- and whose tree begins at the node or comes to it
abbrev pub Reaches : Net → ℕ → Addr → Addr → Type 0
Reaches net n g a = (owner net.ends a ≡ Some n) ⊎ ((e : ℕ) × (inward net n g a ≡ Some e))

pub record AreAllPreviousHops (w : World) : Type 0 where
  pub via : (n : ℕ) (f : Facts) (l : Lane) (h : LinkHop) → slice_get w.nodes n ≡ Some f → IsPrevious w.net n l.session l.hop h → names_via f l ≡ names l.style w.net (locals_of w) l.session (h ∷ [])
  pub known : (n : ℕ) (f : Facts) (s : Session) (x : Sender) → slice_get w.nodes n ≡ Some f → (has (known f s) x ≡ true) ↔ (In x (live (locals_of w) s) × Reaches w.net n s.group x.addr)
