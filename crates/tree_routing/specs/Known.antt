-- What a topology keeps of a hop, and the network that it keeps.
use Rattle.std.specs.Prelude.{◌≡◌, ℕ, suc, Bool, ◌&&◌, List, [], ◌∷◌, map as each, take, Option, None, Some, if◌then◌else◌}
use Rattle.rsvp_base.specs.Members.{In}
use Rattle.rsvp_base.specs.declared.addr.Addr.{Addr}
use Rattle.tree_model.specs.declared.hops.End.{End}
use Rattle.tree_model.specs.declared.hops.LinkHop.{LinkHop}
use Rattle.tree_model.specs.declared.hops.TreeHop.{TreeHop}
use Rattle.tree_model.specs.Networks.{Net, node_of}
use Rattle.tree_model.specs.Trees.{of_group, of_tree, goes_into}
use Rattle.tree_model.specs.Ranks.{same_hop}
use Rattle.tree_routing.specs.declared.known.Known.{Known}
use Rattle.tree_routing.specs.declared.link.Link.{Link}

-- the ends of a link, in order
abbrev pub link_ends : Link → List ℕ
link_ends l = take l.count l.ends

-- the hops that are kept
abbrev pub plain : List Known → List TreeHop
plain ks = each (λ k. k.hop) ks

-- the network of these nodes, ends, links and hops
abbrev pub net_with : ℕ → List End → List Link → List TreeHop → Net
net_with nodes ends links rs = record { nodes = nodes; ends = ends; links = each link_ends links; hops = rs }

-- the network that is kept
abbrev pub net_of : ℕ → List End → List Link → List Known → Net
net_of nodes ends links ks = net_with nodes ends links (plain ks)

-- ---- the graph of a group: a hop is the same in all trees
-- the same hop of the same group
abbrev pub is_pair : Addr → LinkHop → Known → Bool
is_pair g h k = of_group g k.hop && same_hop h k.hop.hop

-- the place of the first that passes a test; the length of the list where none does
abbrev pub first_place : {X : Type 0} → (X → Bool) → List X → ℕ
first_place p [] = 0
first_place p (x ∷ xs) = if p x then 0 else suc (first_place p xs)

-- where the hop of the group stands first; the length of the list where it does not stand
abbrev pub vertex_at : List Known → Addr → LinkHop → ℕ
vertex_at ks g h = first_place (is_pair g h) ks

-- a hop of the same tree into the node that this one goes out of
abbrev pub comes_to : List End → TreeHop → Known → Bool
comes_to ends r k = of_tree r.group r.source k.hop && goes_into ends (node_of ends r.hop.from) k.hop.hop

abbrev pub vertex_before : List End → TreeHop → List Known → Option ℕ
vertex_before ends r [] = None
vertex_before ends r (k ∷ ks) = if comes_to ends r k then Some k.vertex else vertex_before ends r ks

-- what is kept beside a hop: its vertex, and that of the hop before it in its tree
pub record IsKnown (ends : List End) (ks : List Known) (k : Known) : Type 0 where
  pub vertex : k.vertex ≡ vertex_at ks k.hop.group k.hop.hop
  pub before : k.before ≡ vertex_before ends k.hop ks

abbrev pub AreKnown : List End → List Known → Type 0
AreKnown ends ks = (k : Known) → In k ks → IsKnown ends ks k
