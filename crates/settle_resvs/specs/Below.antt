-- Reservations that are sound as far as a rank, and what then goes toward a hop.
use Rattle.std.specs.Prelude.{◌≡◌, ℕ, ◌<◌, true, [], ◌∷◌, Some, slice_get}
use Rattle.rsvp_base.specs.declared.part.Part.{Part}
use Rattle.rsvp_base.specs.declared.session.Session.{Session}
use Rattle.rsvp_base.specs.declared.style.StyleKind.{StyleKind}
use Rattle.rsvp_base.specs.declared.style.Unit.{Unit as UnitOf}
use Rattle.rsvp_base.specs.Members.{In}
use Rattle.rsvp_base.specs.Sets.{IsWithin}
use Rattle.rsvp_base.specs.Table.{get}
use Rattle.style_rules.specs.Lines.{LineKey}
use Rattle.style_rules.specs.Parts.{has_name}
use Rattle.tree_model.specs.Goals.{addr_of}
use Rattle.tree_model.specs.Wants.{names}
use Rattle.router_rules.specs.Facts.{Facts, ResvState, resvs_of}
use Rattle.router_rules.specs.Known.{Lane}
use Rattle.router_rules.specs.Requests.{toward}
use Rattle.tree_model.specs.declared.hops.LinkHop.{LinkHop}
use Rattle.tree_model.specs.Networks.{node_of, iface_of}
use Rattle.tree_model.specs.Ranks.{rank}
use Rattle.tree_model.specs.Trees.{hops_of}
use Rattle.network_model.specs.Locals.{locals_of}
use Rattle.network_model.specs.Sound.{IsSoundPart, IsSoundResv}
use Rattle.network_model.specs.Worlds.{World, config_of}
use Rattle.settle_paths.specs.PreviousHops.{IsPrevious}

-- a reservation names someone, and only live senders whose trees have a hop out of its interface to its next hop
pub record IsNamedResv (st : StyleKind) (w : World) (n : ℕ) (k : LineKey) (r : ResvState) : Type 0 where
  pub some : has_name r.part ≡ true
  pub hop : LinkHop
  pub there : In hop (hops_of w.net.hops k.0.group)
  pub node : node_of w.net.ends hop.from ≡ n
  pub iface : iface_of w.net.ends hop.from ≡ k.1.0.0
  pub to : addr_of w.net hop.to ≡ k.1.0.1
  pub names : IsWithin r.part.senders (names st w.net (locals_of w) k.0 (hop ∷ []))

-- the reservations of a style and session at a node: each is named well, and those over hops of ranks below a number are sound
pub record AreSoundBelow (st : StyleKind) (w : World) (n : ℕ) (f : Facts) (s : Session) (top : ℕ) : Type 0 where
  pub named : (k : LineKey) (r : ResvState) → get (resvs_of st f) k ≡ Some r → k.0 ≡ s → IsNamedResv st w n k r
  pub sound : (k : LineKey) (r : ResvState) (named : IsNamedResv st w n k r) → get (resvs_of st f) k ≡ Some r → k.0 ≡ s → rank w.net s.group named.hop < top → IsSoundResv st w n k r

-- what goes from a node toward a previous hop, whose hop this is, is sound there: it names someone, and is at most what is wanted
-- over the hop
abbrev pub TowardIsAtMostTheWant : ℕ → World → Type 0
TowardIsAtMostTheWant q w =
    (n : ℕ) (f : Facts) (l : Lane) (h : LinkHop) → slice_get w.nodes n ≡ Some f → IsPrevious w.net n l.session l.hop h → AreSoundBelow l.style w n f l.session (rank w.net l.session.group h)
    → (u : UnitOf) (t : Part) → get (toward (config_of q w.net w.trees n) f l) u ≡ Some t → IsSoundPart l.style w l.session h.from (addr_of w.net h.to) u t
