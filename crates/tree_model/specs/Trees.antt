-- Trees: for a group and the address of a source, the hops along which what the source sends goes away from its node.
use Rattle.std.specs.Prelude.{◌≡◌, ℕ, suc, Bool, true, false, not, ◌&&◌, ◌||◌, ◌==◌, List, [], ◌∷◌, ◌++◌, map as each, Option, None, Some}
use Rattle.std.specs.List.{filter, list_any, list_all}
use Rattle.rsvp_base.specs.declared.addr.Addr.{Addr}
use Rattle.rsvp_base.specs.Keys.{Keys, pairs}
use Rattle.rsvp_base.specs.Orders.{addrs}
use Rattle.rsvp_base.specs.Sets.{set_of}
use Rattle.rsvp_base.specs.Table.{keys}
use Rattle.tree_model.specs.declared.hops.End.{End}
use Rattle.tree_model.specs.declared.hops.LinkHop.{LinkHop}
use Rattle.tree_model.specs.declared.hops.TreeHop.{TreeHop}
use Rattle.tree_model.specs.Networks.{Net, node_of, iface_of, owner, among, link_of, peers}

abbrev pub of_group : Addr → TreeHop → Bool
of_group g r = r.group.0 == g.0

abbrev pub of_tree : Addr → Addr → TreeHop → Bool
of_tree g s r = of_group g r && (r.source.0 == s.0)

-- the hops of a tree in the order in which they were added
abbrev pub tree : List TreeHop → Addr → Addr → List LinkHop
tree hops g s = each (λ r. r.hop) (filter (of_tree g s) hops)

-- the hops of a group, one for each tree that has it
abbrev pub hops_of : List TreeHop → Addr → List LinkHop
hops_of hops g = each (λ r. r.hop) (filter (of_group g) hops)

-- the trees that have a hop, by group and source, each once
abbrev pub tree_keys : Keys (Addr × Addr)
tree_keys = pairs addrs addrs

abbrev pub key_of : TreeHop → Addr × Addr
key_of r = (r.group, r.source)

abbrev pub trees_of : List TreeHop → List (Addr × Addr)
trees_of hops = keys (set_of {o = tree_keys} (each key_of hops))

-- ---- a tree grows from the node of its source
abbrev pub goes_into : List End → ℕ → LinkHop → Bool
goes_into ends n h = node_of ends h.to == n

abbrev pub goes_out_of : List End → ℕ → LinkHop → Bool
goes_out_of ends n h = node_of ends h.from == n

abbrev pub is_node : ℕ → Option ℕ → Bool
is_node n None = false
is_node n (Some m) = m == n

-- the hops lead to the node, or it is the root
abbrev pub is_reached : List End → Addr → List LinkHop → ℕ → Bool
is_reached ends s hs n = is_node n (owner ends s) || list_any (goes_into ends n) hs

-- the two ends of a hop are of one link
abbrev pub is_linked : List (List ℕ) → LinkHop → Bool
is_linked links h = among h.to (peers links h.from)

-- hops of a tree on the link of this end go out of it, and of no other
abbrev pub sends_alone : List (List ℕ) → ℕ → LinkHop → Bool
sends_alone links e x = not (among x.from (link_of links e)) || (x.from == e)

-- a tree can grow by a hop: its ends share a link, it goes out of a node of the tree into one that is not yet of it, and no
-- other end of the link sends for the tree
pub record Grows (net : Net) (s : Addr) (hs : List LinkHop) (h : LinkHop) : Type 0 where
  pub linked : is_linked net.links h ≡ true
  pub from_reached : is_reached net.ends s hs (node_of net.ends h.from) ≡ true
  pub to_new : is_reached net.ends s hs (node_of net.ends h.to) ≡ false
  pub alone : list_all (sends_alone net.links h.from) hs ≡ true

-- the hops grow the tree further, one by one
abbrev pub IsGrownFrom : Net → Addr → List LinkHop → List LinkHop → Type 0
IsGrownFrom net s before [] = Unit {0}
IsGrownFrom net s before (h ∷ hs) = Grows net s before h × IsGrownFrom net s (before ++ h ∷ []) hs

-- the hops form a tree that leads away from the node of its source
abbrev pub IsGrown : Net → Addr → List LinkHop → Type 0
IsGrown net s hs = IsGrownFrom net s [] hs

-- ---- what is asked of a tree
abbrev pub first_by : (LinkHop → Bool) → List LinkHop → Option LinkHop
first_by p [] = None
first_by p (h ∷ hs) = elim (p h) [ true ↦ Some h | false ↦ first_by p hs ]

abbrev pub end_into : Option LinkHop → Option ℕ
end_into None = None
end_into (Some h) = Some h.to

-- the end by which the tree comes into a node
abbrev pub inward : Net → ℕ → Addr → Addr → Option ℕ
inward net n g s = end_into (first_by (goes_into net.ends n) (tree net.hops g s))

-- the interface of an end
abbrev pub iface_in : List End → Option ℕ → Option ℕ
iface_in ends None = None
iface_in ends (Some e) = Some (iface_of ends e)

-- the ends by which it leaves a node, one for each hop
abbrev pub outward : Net → ℕ → Addr → Addr → List ℕ
outward net n g s = each (λ h. h.from) (filter (goes_out_of net.ends n) (tree net.hops g s))

-- how many hops lead to a node
abbrev pub depths : List End → (ℕ → ℕ) → List LinkHop → ℕ → ℕ
depths ends d [] n = d n
depths ends d (h ∷ hs) n = depths ends (λ m. elim (node_of ends h.to == m) [ true ↦ suc (d (node_of ends h.from)) | false ↦ d m ]) hs n

abbrev pub depth : Net → Addr → Addr → ℕ → ℕ
depth net g s n = depths net.ends (λ m. 0) (tree net.hops g s) n
