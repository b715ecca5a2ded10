-- What a topology answers for a hop.
use Rattle.std.specs.Prelude.{◌≡◌, ◌⊎◌, ℕ, zero, suc, ◌+◌, nat_le, if◌then◌else◌, ◌<◌, ◌≤◌, List, [], ◌∷◌, ◌++◌, Result, Ok, Err, length, map as each, None}
use Rattle.rsvp_base.specs.Members.{In}
use Rattle.rsvp_base.specs.declared.addr.Addr.{Addr}
use Rattle.tree_model.specs.declared.hops.End.{End}
use Rattle.tree_model.specs.declared.hops.LinkHop.{LinkHop}
use Rattle.tree_model.specs.declared.hops.TreeHop.{TreeHop}
use Rattle.tree_model.specs.Chains.{NoRepeats}
use Rattle.tree_model.specs.Networks.{Net, node_of, ends_of, owner, link_of}
use Rattle.tree_model.specs.Trees.{tree, Grows}
use Rattle.tree_model.specs.Ranks.{IsLoopFreeIn, IsOnLoop}
use Rattle.tree_routing.specs.declared.hop_err.HopErr.{HopErr}
use Rattle.tree_routing.specs.declared.hop_err.HopErr.TheVariants.{NotTree, Loop, NoMemory}

-- no nodes
abbrev pub no_net : Net
no_net = record { nodes = 0; ends = []; links = []; hops = [] }

-- the network with one more node, end, link or hop
abbrev pub with_node : Net → Net
with_node net = record { nodes = net.nodes + 1; ends = net.ends; links = net.links; hops = net.hops }

abbrev pub with_end : Net → End → Net
with_end net e = record { nodes = net.nodes; ends = net.ends ++ e ∷ []; links = net.links; hops = net.hops }

-- with this latency of an end, where it is there
abbrev pub ends_with_latency : List End → ℕ → ℕ → List End
ends_with_latency [] e latency = []
ends_with_latency (x ∷ xs) zero latency = (record x { iface = record x.iface { latency = latency } }) ∷ xs
ends_with_latency (x ∷ xs) (suc e) latency = x ∷ ends_with_latency xs e latency

abbrev pub with_latency : Net → ℕ → ℕ → Net
with_latency net e latency = record { nodes = net.nodes; ends = ends_with_latency net.ends e latency; links = net.links; hops = net.hops }

-- numbers in order
abbrev pub put_number : ℕ → List ℕ → List ℕ
put_number n [] = n ∷ []
put_number n (m ∷ ms) = if nat_le n m then n ∷ m ∷ ms else m ∷ put_number n ms

abbrev pub put_numbers : List ℕ → List ℕ → List ℕ
put_numbers ms [] = ms
put_numbers ms (n ∷ ns) = put_numbers (put_number n ms) ns

abbrev pub rising : List ℕ → List ℕ
rising ns = put_numbers [] ns

abbrev pub with_link : Net → List ℕ → Net
with_link net es = record { nodes = net.nodes; ends = net.ends; links = net.links ++ rising es ∷ []; hops = net.hops }

abbrev pub with_hop : Net → TreeHop → Net
with_hop net r = record { nodes = net.nodes; ends = net.ends; links = net.links; hops = net.hops ++ r ∷ [] }

-- the end can be added: its node is there and has fewer than 16 ends, and no end has its address
pub record TakesEnd (net : Net) (e : End) : Type 0 where
  pub node : e.node < net.nodes
  pub room : length (ends_of net.ends e.node) < 16
  pub address : owner net.ends e.iface.addr ≡ None

-- a link of these ends can be added: they are two to eight, are there, each of a node of its own, and in no link
pub record TakesLink (net : Net) (es : List ℕ) : Type 0 where
  pub some : 2 ≤ length es
  pub few : length es ≤ 8
  pub there : (e : ℕ) → In e es → e < length net.ends
  pub free : (e : ℕ) → In e es → link_of net.links e ≡ []
  pub apart : NoRepeats (each (node_of net.ends) es)
  pub room : length net.links < 512

-- the tree of the hop can grow by it
abbrev pub Fits : Net → TreeHop → Type 0
Fits net r = Grows net r.source (tree net.hops r.group r.source) r.hop

-- hops in order: by the end that they go out of, then by the one that they go into
abbrev pub IsUpTo : LinkHop → LinkHop → Type 0
IsUpTo a b = (a.from < b.from) ⊎ ((a.from ≡ b.from) × (a.to ≤ b.to))

-- the least hop of the group that stands on a closed chain
pub record IsLeastOnLoop (net : Net) (g : Addr) (h : LinkHop) : Type 0 where
  pub on : IsOnLoop net g h
  pub least : (x : LinkHop) → IsOnLoop net g x → IsUpTo h x

-- taken: the tree grows, and no chain of the group is closed. Not of the tree: it can't grow by the hop. A loop: it can, and
-- then this is the least hop on a closed chain of the group. No memory: it can, and there was no room for the hop or the check
abbrev pub HopAnswer : Net → TreeHop → Result (Unit {0}) HopErr → Type 0
HopAnswer net r (Ok u) = Fits net r × IsLoopFreeIn (with_hop net r) r.group
HopAnswer net r (Err NotTree) = Fits net r → ⊥
HopAnswer net r (Err (Loop group from to)) = Fits net r × (group ≡ r.group) × IsLeastOnLoop (with_hop net r) r.group (record { from = from; to = to })
HopAnswer net r (Err NoMemory) = Fits net r
