-- The claims of the public laws.
use Rattle.std.specs.Prelude.{◌≡◌, ◌↔◌, ◌⊎◌, ℕ, ◌+◌, ◌<◌, ◌≤◌, List, length, None, Some}
use Rattle.rsvp_base.specs.Members.{In}
use Rattle.rsvp_base.specs.declared.addr.Addr.{Addr}
use Rattle.tree_model.specs.declared.hops.LinkHop.{LinkHop}
use Rattle.tree_model.specs.Networks.{Net, node_of, end_at, iface_of, owner, link_of, peers}
use Rattle.tree_model.specs.Trees.{tree, hops_of, inward, outward, depth}
use Rattle.tree_model.specs.Ranks.{Follows, followers, IsChain, rank, longest}

-- ---- interfaces and ends
-- each end is the interface of its node that its number says, and an interface is of its node
pub record InterfacesAreEnds (net : Net) : Type 0 where
  pub end_of_iface : (e : ℕ) → e < length net.ends → end_at net.ends (node_of net.ends e) (iface_of net.ends e) ≡ Some e
  pub iface_of_end : (n i e : ℕ) → end_at net.ends n i ≡ Some e → (e < length net.ends) × (node_of net.ends e ≡ n) × (iface_of net.ends e ≡ i)

-- ---- chains and ranks
-- the list of followers has exactly the hops that follow
abbrev pub FollowersFollow : Type 0
FollowersFollow = (net : Net) (g : Addr) (h h' : LinkHop) → In h' (followers net g h) ↔ Follows net g h h'

pub record RankFallsAlongFollowers (net : Net) : Type 0 where
  pub falls : (g : Addr) (h h' : LinkHop) → Follows net g h h' → rank net g h' < rank net g h
  pub hops : (g : Addr) (h : LinkHop) → In h (hops_of net.hops g) → (1 ≤ rank net g h) × (rank net g h ≤ longest net)
  pub others : (g : Addr) (h : LinkHop) → (In h (hops_of net.hops g) → ⊥) → rank net g h ≡ 0

-- no chain is longer, and one is as long
pub record LongestIsOfChains (net : Net) : Type 0 where
  pub bound : (g : Addr) (c : List LinkHop) → IsChain net g c → length c ≤ longest net
  pub met : (longest net ≡ 0) ⊎ ((g : Addr) × (c : List LinkHop) × IsChain net g c × (length c ≡ longest net))

-- ---- trees
pub record OneHopIntoANode (net : Net) : Type 0 where
  pub one : (g s : Addr) (h h' : LinkHop) → In h (tree net.hops g s) → In h' (tree net.hops g s) → node_of net.ends h.to ≡ node_of net.ends h'.to → h ≡ h'
  pub way_in : (n e : ℕ) (g s : Addr) → (inward net n g s ≡ Some e) ↔ ((h : LinkHop) × In h (tree net.hops g s) × (h.to ≡ e) × (node_of net.ends e ≡ n))
  pub none : (n : ℕ) (g s : Addr) → (inward net n g s ≡ None) ↔ ((h : LinkHop) → In h (tree net.hops g s) → node_of net.ends h.to ≡ n → ⊥)

abbrev pub OutwardIsByHops : Type 0
OutwardIsByHops = (net : Net) (n e : ℕ) (g s : Addr) → In e (outward net n g s) ↔ ((h : LinkHop) × In h (tree net.hops g s) × (h.from ≡ e) × (node_of net.ends e ≡ n))

-- the node of the source has no inward end, and a node to which no hop leads has none and sends nothing unless it is the root
pub record TheRootHasNoInward (net : Net) : Type 0 where
  pub root : (n : ℕ) (g s : Addr) → owner net.ends s ≡ Some n → inward net n g s ≡ None
  pub entered : (n e : ℕ) (g s : Addr) → In e (outward net n g s) → (owner net.ends s ≡ Some n) ⊎ ((i : ℕ) × (inward net n g s ≡ Some i))

pub record DepthAndRankWithinLongest (net : Net) : Type 0 where
  -- depth is 0 where no hop leads, and goes up by one along a hop
  pub start : (g s : Addr) (n : ℕ) → inward net n g s ≡ None → depth net g s n ≡ 0
  pub along : (g s : Addr) (h : LinkHop) → In h (tree net.hops g s) → depth net g s (node_of net.ends h.to) ≡ depth net g s (node_of net.ends h.from) + 1
  pub within : (g s : Addr) (h : LinkHop) → In h (tree net.hops g s) → depth net g s (node_of net.ends h.from) + rank net g h ≤ longest net
  pub every : (g s : Addr) (n : ℕ) → depth net g s n ≤ longest net

pub record OneSendingEndOnALink (net : Net) : Type 0 where
  -- where an end sends for a tree, and another end of its link is the way in of its node, the hop between them is of the tree
  pub hop : (g s : Addr) (a e : ℕ) → In a (outward net (node_of net.ends a) g s) → In e (peers net.links a) → inward net (node_of net.ends e) g s ≡ Some e
      → (h : LinkHop) × In h (tree net.hops g s) × (h.from ≡ a) × (h.to ≡ e)
  -- no two ends of a link send for one tree
  pub alone : (g s : Addr) (a b : ℕ) → In a (outward net (node_of net.ends a) g s) → In b (outward net (node_of net.ends b) g s) → In b (link_of net.links a) → a ≡ b
  pub linked : (g s : Addr) (h : LinkHop) → In h (tree net.hops g s) → In h.to (peers net.links h.from)
