-- Which hop follows which, loop-free routing, and the longest chain (RFC 2205, 3.5: shared reservations can loop across
-- trees that have no loop each).
use Rattle.std.specs.Prelude.{◌≡◌, ℕ, Bool, ◌&&◌, ◌==◌, List, length, map as each, if◌then◌else◌}
use Rattle.std.specs.List.{filter, list_any}
use Rattle.rsvp_base.specs.Members.{In}
use Rattle.rsvp_base.specs.declared.addr.Addr.{Addr}
use Rattle.tree_model.specs.declared.hops.LinkHop.{LinkHop}
use Rattle.tree_model.specs.declared.hops.TreeHop.{TreeHop}
use Rattle.tree_model.specs.Networks.{Net, node_of}
use Rattle.tree_model.specs.Trees.{of_group, tree, hops_of}
use Rattle.tree_model.specs.Chains.{Chain, HasNoLoop, StandsOnLoop, height, largest}

-- some tree of the group has both hops, and the second goes out of the node that the first goes into
pub record Follows (net : Net) (g : Addr) (h h' : LinkHop) : Type 0 where
  pub source : Addr
  pub first : In h (tree net.hops g source)
  pub second : In h' (tree net.hops g source)
  pub meet : node_of net.ends h'.from ≡ node_of net.ends h.to

-- ---- the same as a test
abbrev pub same_hop : LinkHop → LinkHop → Bool
same_hop a b = (a.from == b.from) && (a.to == b.to)

abbrev pub has_hop : List LinkHop → LinkHop → Bool
has_hop hs h = list_any (same_hop h) hs

-- the tree of this hop has both
abbrev pub holds_both : List TreeHop → Addr → LinkHop → LinkHop → TreeHop → Bool
holds_both hops g h h' r = of_group g r && (same_hop h r.hop && has_hop (tree hops g r.source) h')

abbrev pub follows : Net → Addr → LinkHop → LinkHop → Bool
follows net g h h' = (node_of net.ends h'.from == node_of net.ends h.to) && list_any (holds_both net.hops g h h') net.hops

-- ---- chains of a group
abbrev pub followers : Net → Addr → LinkHop → List LinkHop
followers net g h = filter (follows net g h) (hops_of net.hops g)

-- a list of hops of the group in which each is followed by the next
abbrev pub IsChain : Net → Addr → List LinkHop → Type 0
IsChain net g c = Chain (followers net g) (hops_of net.hops g) c

-- no chain of a group is closed
abbrev pub IsLoopFreeIn : Net → Addr → Type 0
IsLoopFreeIn net g = HasNoLoop (followers net g) (hops_of net.hops g)

abbrev pub IsLoopFree : Net → Type 0
IsLoopFree net = (g : Addr) → IsLoopFreeIn net g

abbrev pub IsOnLoop : Net → Addr → LinkHop → Type 0
IsOnLoop net g h = StandsOnLoop (followers net g) (hops_of net.hops g) h

-- the length of the longest chain that begins with the hop; 0 for what is no hop of the group
abbrev pub rank : Net → Addr → LinkHop → ℕ
rank net g h = if has_hop (hops_of net.hops g) h then height (followers net g) (length (hops_of net.hops g)) h else 0

abbrev pub rank_of : Net → TreeHop → ℕ
rank_of net r = rank net r.group r.hop

-- the length of the longest chain of any group
abbrev pub longest : Net → ℕ
longest net = largest (each (rank_of net) net.hops)
