-- Ranks fall along followers; the largest is the length of the longest chain.
use Rattle.std.specs.Prelude.{◌≡◌, ◌⊎◌, ℕ, ◌<◌, ◌≤◌, Bool, true, false, List, [], ◌∷◌, length, map as each, refl, if◌then◌else◌}
use Rattle.std.proofs.Common.{sym, ap, ◌∙◌, inl, inr, arith}
use Rattle.rsvp_base.specs.Members.{In}
use Rattle.rsvp_base.specs.declared.addr.Addr.{Addr}
use Rattle.rsvp_base.proofs.Tables.{either}
use Rattle.tree_model.specs.declared.hops.LinkHop.{LinkHop}
use Rattle.tree_model.specs.declared.hops.TreeHop.{TreeHop}
use Rattle.tree_model.specs.Networks.{Net}
use Rattle.tree_model.specs.Trees.{hops_of}
use Rattle.tree_model.specs.Chains.{largest, height}
use Rattle.tree_model.specs.Ranks.{Follows, has_hop, followers, IsChain, IsLoopFree, rank, rank_of, longest}
use Rattle.tree_model.specs.Laws.{RankFallsAlongFollowers, LongestIsOfChains}
use Rattle.tree_model.proofs.Following.{in_has_hop, has_hop_in, in_group, to_group, tree_group, follower_of_group, follows_follower}
use Rattle.tree_model.proofs.Heights.{below_largest, largest_is, falls, height_some, chain_within, chain_met}

if_true : (b : Bool) (m n : ℕ) → b ≡ true → (if b then m else n) ≡ m
if_true true m n e = refl
if_true false m n e = cc

if_false : (b : Bool) (m n : ℕ) → b ≡ false → (if b then m else n) ≡ n
if_false true m n e = cc
if_false false m n e = refl

module _ (net : Net) (g : Addr) where
  pub rank_of_hop : (h : LinkHop) → In h (hops_of net.hops g) → rank net g h ≡ height (followers net g) (length (hops_of net.hops g)) h
  rank_of_hop h i = if_true (has_hop (hops_of net.hops g) h) _ 0 (in_has_hop (hops_of net.hops g) h i)

  pub rank_of_other : (h : LinkHop) → (In h (hops_of net.hops g) → ⊥) → rank net g h ≡ 0
  rank_of_other h off = either (has_hop (hops_of net.hops g) h) (λ t. absurd (off (has_hop_in (hops_of net.hops g) h t))) (λ f. if_false (has_hop (hops_of net.hops g) h) _ 0 f)

  pub rank_within : (h : LinkHop) → In h (hops_of net.hops g) → rank net g h ≤ longest net
  rank_within h i =
      let r = in_group net.hops g h i in
      let e : rank net r.0.group r.0.hop ≡ rank net g h = ap (λ (a : Addr). rank net a r.0.hop) r.2 ∙ ap (λ (x : LinkHop). rank net g x) r.3 in
      let b = below_largest (rank_of net) r.0 net.hops r.1 in
      omega arith

module _ (net : Net) (free : IsLoopFree net) where
  pub rank_falls_at : (g : Addr) (h h' : LinkHop) → Follows net g h h' → rank net g h' < rank net g h
  rank_falls_at g h h' f =
      let i = tree_group net.hops g f.source h f.first in
      let i' = tree_group net.hops g f.source h' f.second in
      let fall = falls (followers net g) (hops_of net.hops g) (follower_of_group net g) (free g) h h' i (follows_follower net g h h' f) in
      let e = rank_of_hop net g h i in
      let e' = rank_of_hop net g h' i' in
      omega arith

  pub rank_some : (g : Addr) (h : LinkHop) → In h (hops_of net.hops g) → 1 ≤ rank net g h
  rank_some g h i =
      let e = rank_of_hop net g h i in
      let some = height_some (followers net g) (hops_of net.hops g) (follower_of_group net g) (free g) h i in
      omega arith

  pub bound : (g : Addr) (c : List LinkHop) → IsChain net g c → length c ≤ longest net
  bound g [] chain = omega arith
  bound g (h ∷ c) chain =
      let i = first_in c chain in
      let e = rank_of_hop net g h i in
      let up = chain_within (followers net g) (hops_of net.hops g) (follower_of_group net g) (free g) h c chain in
      let le = rank_within net g h i in
      omega arith
    where
      first_in : (c : List LinkHop) → IsChain net g (h ∷ c) → In h (hops_of net.hops g)
      first_in [] chain = chain
      first_in (y ∷ ys) chain = chain.0

  pub met : (longest net ≡ 0) ⊎ ((g : Addr) × (c : List LinkHop) × IsChain net g c × (length c ≡ longest net))
  met = by (largest_is (rank_of net) net.hops)
    where
      by : (net.hops ≡ []) ⊎ ((r : TreeHop) × In r net.hops × (rank_of net r ≡ largest (each (rank_of net) net.hops)))
          → (longest net ≡ 0) ⊎ ((g : Addr) × (c : List LinkHop) × IsChain net g c × (length c ≡ longest net))
      by (inl e) = inl (ap (λ (rs : List TreeHop). largest (each (rank_of net) rs)) e)
      by (inr r) =
          let i = to_group net.hops r.0 r.1 in
          let c = chain_met (followers net r.0.group) (hops_of net.hops r.0.group) (follower_of_group net r.0.group) (free r.0.group) r.0.hop i in
          let e = rank_of_hop net r.0.group r.0.hop i in
          inr (r.0.group, r.0.hop ∷ c.0, c.1, c.2 ∙ sym e ∙ r.2)

pub rank_falls : (net : Net) → IsLoopFree net → RankFallsAlongFollowers net
rank_falls net free =
    record { falls = rank_falls_at net free; hops = λ g h i. (rank_some net free g h i, rank_within net g h i); others = λ g h off. rank_of_other net g h off }

pub longest_is_of_chains : (net : Net) → IsLoopFree net → LongestIsOfChains net
longest_is_of_chains net free = record { bound = bound net free; met = met net free }
