-- A grown network on its way: nodes, then the links of the first of them, then trees.
use Rattle.std.specs.Prelude.{◌≡◌, ℕ, ◌<◌, ◌≤◌, List, [], length, map as each}
use Rattle.rsvp_base.specs.Members.{In}
use Rattle.rsvp_base.specs.declared.addr.Addr.{Addr}
use Rattle.tree_model.specs.Chains.{NoRepeats}
use Rattle.tree_model.specs.declared.hops.TreeHop.{TreeHop}
use Rattle.tree_model.specs.declared.locals.LocalSender.{LocalSender}
use Rattle.tree_model.specs.Networks.{Net}
use Rattle.tree_model.specs.Trees.{tree}
use Rattle.grown_network.specs.Grown.{net_with}
use Rattle.grown_network.specs.Hops.{hops_away}
use Rattle.grown_network.specs.Nodes.{ends_up_to, home, links_up_to}

-- nodes alone
abbrev pub nodes_alone : ℕ → Net
nodes_alone n = record { nodes = n; ends = []; links = []; hops = [] }

-- with the links of the nodes from 1 to n
abbrev pub hung_up_to : ℕ → Net
hung_up_to n = record { nodes = 64; ends = ends_up_to n; links = links_up_to n; hops = [] }

-- ---- trees
-- the hop leads away from the node of its source
pub record IsAwayHop (t : TreeHop) : Type 0 where
  pub node : ℕ
  pub within : node < 64
  pub source : t.source ≡ home node
  pub hop : In t.hop (hops_away node)

abbrev pub AreAway : List TreeHop → Type 0
AreAway ts = (t : TreeHop) → In t ts → IsAwayHop t

-- the sender sends from the address of its node
pub record IsAtHome (x : LocalSender) : Type 0 where
  pub within : x.node < 64
  pub home_is : x.sender.addr ≡ home x.node

-- the tree of a sender can be added to these
pub record TakesTree (net : Net) (x : LocalSender) : Type 0 where
  pub hung : net ≡ net_with net.hops
  pub away : AreAway net.hops
  pub new : tree net.hops x.session.group x.sender.addr ≡ []
  pub room : length net.hops ≤ 8000

-- ---- senders whose trees can be added one after another: each at its node, no two of a session at one, and few
abbrev pub tree_key : LocalSender → Addr × Addr
tree_key x = (x.session.group, x.sender.addr)

pub record AreApart (xs : List LocalSender) : Type 0 where
  pub home_at : (x : LocalSender) → In x xs → IsAtHome x
  pub once : NoRepeats (each tree_key xs)
  pub few : length xs ≤ 12
