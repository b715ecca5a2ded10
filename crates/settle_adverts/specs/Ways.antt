-- The hops by which a tree leads from the node of its source to another node.
use Rattle.std.specs.Prelude.{◌≡◌, ℕ, Bool, true, false, ◌==◌, List, [], ◌∷◌, ◌++◌, length, Some}
use Rattle.rsvp_base.specs.declared.addr.Addr.{Addr}
use Rattle.rsvp_base.specs.Members.{In}
use Rattle.tree_model.specs.declared.hops.End.{End}
use Rattle.tree_model.specs.declared.hops.LinkHop.{LinkHop}
use Rattle.tree_model.specs.Networks.{Net, node_of, owner}
use Rattle.tree_model.specs.Trees.{depth, tree}

-- as the tree grows hop by hop: to the node that a hop goes into leads the way to the node that it goes out of, and then the hop
abbrev pub ways : List End → (ℕ → List LinkHop) → List LinkHop → ℕ → List LinkHop
ways ends d [] n = d n
ways ends d (h ∷ hs) n = ways ends (λ m. elim (node_of ends h.to == m) [ true ↦ d (node_of ends h.from) ++ h ∷ [] | false ↦ d m ]) hs n

abbrev pub way : Net → Addr → Addr → ℕ → List LinkHop
way net g s n = ways net.ends (λ m. []) (tree net.hops g s) n

-- ---- laws
pub record AWayGoesHopByHop (net : Net) : Type 0 where
  -- no hop leads to the node of the source
  pub root : (g s : Addr) (n : ℕ) → owner net.ends s ≡ Some n → way net g s n ≡ []
  -- each hop of the tree comes last on the way to the node that it goes into
  pub along : (g s : Addr) (h : LinkHop) → In h (tree net.hops g s) → way net g s (node_of net.ends h.to) ≡ way net g s (node_of net.ends h.from) ++ h ∷ []
  -- as many hops as the node is deep
  pub long : (g s : Addr) (n : ℕ) → length (way net g s n) ≡ depth net g s n
