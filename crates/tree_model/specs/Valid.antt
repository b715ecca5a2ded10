-- What holds of every network that a topology lets come about.
use Rattle.std.specs.Prelude.{◌≡◌, ℕ, ◌<◌, ◌≤◌, true, List, [], ◌∷◌, length, slice_get, Some}
use Rattle.rsvp_base.specs.Members.{In}
use Rattle.rsvp_base.specs.declared.addr.Addr.{Addr}
use Rattle.tree_model.specs.declared.hops.End.{End}
use Rattle.tree_model.specs.Networks.{Net, node_of, ends_of, among, link_of}
use Rattle.tree_model.specs.Trees.{tree, IsGrown}
use Rattle.tree_model.specs.Ranks.{IsLoopFree}

-- each is below the next
abbrev pub AreRising : List ℕ → Type 0
AreRising [] = Unit {0}
AreRising (e ∷ []) = Unit {0}
AreRising (e ∷ f ∷ es) = (e < f) × AreRising (f ∷ es)

-- within the limits, every end of a node, no address twice, links of two to eight ends of different nodes, in order, no end in
-- two links, trees that were grown, and no closed chain
pub record IsValid (net : Net) : Type 0 where
  pub few_nodes : net.nodes ≤ 256
  pub few_ends : (n : ℕ) → length (ends_of net.ends n) ≤ 16
  pub few_links : length net.links ≤ 512
  pub few_hops : length net.hops ≤ 8192
  pub placed : (e : End) → In e net.ends → e.node < net.nodes
  pub one_address : (i j : ℕ) (d e : End) → slice_get net.ends i ≡ Some d → slice_get net.ends j ≡ Some e → d.iface.addr ≡ e.iface.addr → i ≡ j
  pub linked : (l : List ℕ) → In l net.links → (2 ≤ length l) × (length l ≤ 8)
  pub nodes_apart : (l : List ℕ) (a b : ℕ) → In l net.links → In a l → In b l → node_of net.ends a ≡ node_of net.ends b → a ≡ b
  pub ends_of_links : (l : List ℕ) (e : ℕ) → In l net.links → In e l → e < length net.ends
  pub rising : (l : List ℕ) → In l net.links → AreRising l
  pub apart : (i j : ℕ) (l m : List ℕ) (e : ℕ) → slice_get net.links i ≡ Some l → slice_get net.links j ≡ Some m → In e l → In e m → i ≡ j
  pub one_link : (a b : ℕ) → among b (link_of net.links a) ≡ true → link_of net.links b ≡ link_of net.links a
  pub grown : (g s : Addr) → IsGrown net s (tree net.hops g s)
  pub loop_free : IsLoopFree net
