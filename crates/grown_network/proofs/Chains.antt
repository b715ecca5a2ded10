-- Hops that lead away from nodes close no chain: a chain goes up for a while and then down, and never back.
use Rattle.std.proofs.Common.{◌≡◌, ◌⊎◌, ℕ, ◌+◌, ◌-◌, ◌<◌, ◌≤◌, Bool, true, false, List, [], ◌∷◌, refl, sym, ap, subst, ◌∙◌, inl, inr, ⊎_elim, arith}
use Rattle.std.specs.Prelude.{map as each, not, nat_lt, if◌then◌else◌}
use Rattle.std.specs.List.{filter, range_with_len}
use Rattle.rsvp_base.specs.declared.addr.Addr.{Addr}
use Rattle.rsvp_base.specs.Members.{In}
use Rattle.rsvp_base.proofs.Members.{in_append, in_each, in_filter}
use Rattle.tree_model.specs.declared.hops.LinkHop.{LinkHop}
use Rattle.tree_model.specs.declared.hops.TreeHop.{TreeHop}
use Rattle.tree_model.specs.Chains.{Chain, last_of}
use Rattle.tree_model.specs.Networks.{among, node_of}
use Rattle.tree_model.specs.Ranks.{Follows, IsLoopFreeIn, followers}
use Rattle.tree_model.specs.Trees.{hops_of}
use Rattle.tree_model.proofs.Following.{follower_follows, in_tree}
use Rattle.tree_model.proofs.Links.{in_among}
use Rattle.grown_network.specs.Grown.{net_with}
use Rattle.grown_network.specs.Growing.{AreAway}
use Rattle.grown_network.specs.Hops.{hop_down, hop_up, hops_away, hops_down, way_up}
use Rattle.grown_network.specs.Nodes.{above, down_end, ends_up_to, up_end}
use Rattle.grown_network.proofs.Climbs.{way_within}
use Rattle.grown_network.proofs.Links.{node_down, node_up, one_home}
use Rattle.grown_network.proofs.Ranges.{in_range}

-- ---- a hop that leads away from node r: up over a link of the way up, or down over another
pub record IsAway (r : ℕ) (h : LinkHop) : Type 0 where
  pub node : ℕ
  pub some : 1 ≤ node
  pub within : node < 64
  pub way : (In node (way_up r) × (h ≡ hop_up node)) ⊎ ((In node (way_up r) → ⊥) × (h ≡ hop_down node))

pub away_is : (r : ℕ) → r < 64 → (h : LinkHop) → In h (hops_away r) → IsAway r h
unfolding hops_away hops_down
away_is r lt h i =
    ⊎_elim
    (λ (u : In h (each hop_up (way_up r))).
    let j = in_each hop_up h (way_up r) u in
    let within = way_within r lt j.0 j.1 in
    record { node = j.0; some = within.0; within = within.1; way = inl (j.1, j.2) })
    (λ (d : In h (each hop_down (filter (λ k. not (among k (way_up r))) (range_with_len 1 63)))).
    let j = in_each hop_down h (filter (λ k. not (among k (way_up r))) (range_with_len 1 63)) d in
    let k = in_filter (λ k. not (among k (way_up r))) j.0 (range_with_len 1 63) j.1 in
    let within = in_range 1 63 j.0 k.0 in
    let hi = within.1 in
    record { node = j.0; some = within.0; within = omega (arith, hi); way = inr (off (among j.0 (way_up r)) j.0 k.1, j.2) })
    (in_append h (each hop_up (way_up r)) (each hop_down (filter (λ k. not (among k (way_up r))) (range_with_len 1 63))) i)
  where
    off : (b : Bool) (j : ℕ) → not (among j (way_up r)) ≡ true → In j (way_up r) → ⊥
    off b j e m = let both : not true ≡ true = ap not (sym (in_among j (way_up r) m)) ∙ e in cc

-- ---- what falls along a chain: up, the number of the link; then, below each of these, down, what is left to the last link
abbrev weight : LinkHop → ℕ
weight h = if nat_lt h.to h.from then 200 + h.from else 200 - (h.from + 1)

weight_up : (k : ℕ) → weight (hop_up k) ≡ 200 + up_end k
weight_up k = by (nat_lt (down_end k) (up_end k)) (grind arith)
  where
    by : (b : Bool) → b ≡ true → (if b then 200 + up_end k else 200 - (up_end k + 1)) ≡ 200 + up_end k
    by true e = refl
    by false e = absurd (cc)

weight_down : (k : ℕ) → weight (hop_down k) ≡ 200 - (down_end k + 1)
weight_down k = by (nat_lt (up_end k) (down_end k)) (grind arith)
  where
    by : (b : Bool) → b ≡ false → (if b then 200 + down_end k else 200 - (down_end k + 1)) ≡ 200 - (down_end k + 1)
    by true e = absurd (cc)
    by false e = refl

-- from hop to hop of a tree
falls_in_tree : (r : ℕ) → r < 64 → (h h' : LinkHop) → IsAway r h → IsAway r h' → node_of (ends_up_to 63) h'.from ≡ node_of (ends_up_to 63) h.to → weight h' < weight h
falls_in_tree r lt h h' a b meet = by a.way b.way
  where
    la : 1 ≤ a.node
    la = a.some

    lb : 1 ≤ b.node
    lb = b.some

    ha : a.node < 64
    ha = a.within

    hb : b.node < 64
    hb = b.within

    from_up : h' ≡ hop_up b.node → node_of (ends_up_to 63) h'.from ≡ b.node
    from_up e = ap (λ (x : LinkHop). node_of (ends_up_to 63) x.from) e ∙ node_up 63 b.node lb (omega arith)

    from_down : h' ≡ hop_down b.node → node_of (ends_up_to 63) h'.from ≡ above b.node
    from_down e = ap (λ (x : LinkHop). node_of (ends_up_to 63) x.from) e ∙ node_down 63 b.node lb (omega arith)

    to_up : h ≡ hop_up a.node → node_of (ends_up_to 63) h.to ≡ above a.node
    to_up e = ap (λ (x : LinkHop). node_of (ends_up_to 63) x.to) e ∙ node_down 63 a.node la (omega arith)

    to_down : h ≡ hop_down a.node → node_of (ends_up_to 63) h.to ≡ a.node
    to_down e = ap (λ (x : LinkHop). node_of (ends_up_to 63) x.to) e ∙ node_up 63 a.node la (omega arith)

    by : (In a.node (way_up r) × (h ≡ hop_up a.node)) ⊎ ((In a.node (way_up r) → ⊥) × (h ≡ hop_down a.node))
        → (In b.node (way_up r) × (h' ≡ hop_up b.node)) ⊎ ((In b.node (way_up r) → ⊥) × (h' ≡ hop_down b.node)) → weight h' < weight h
    by (inl p) (inl q) =
        let same : b.node ≡ above a.node = sym (from_up q.1) ∙ meet ∙ to_up p.1 in
        let wa = ap weight p.1 ∙ weight_up a.node in
        let wb = ap weight q.1 ∙ weight_up b.node in
        omega (arith, same, wa, wb)
    by (inl p) (inr q) =
        let wa = ap weight p.1 ∙ weight_up a.node in
        let wb = ap weight q.1 ∙ weight_down b.node in
        omega (arith, wa, wb)
    by (inr p) (inl q) =
        let same : b.node ≡ a.node = sym (from_up q.1) ∙ meet ∙ to_down p.1 in
        absurd (p.0 (subst (λ (k : ℕ). In k (way_up r)) same q.0))
    by (inr p) (inr q) =
        let same : above b.node ≡ a.node = sym (from_down q.1) ∙ meet ∙ to_down p.1 in
        let wa = ap weight p.1 ∙ weight_down a.node in
        let wb = ap weight q.1 ∙ weight_down b.node in
        omega (arith, same, wa, wb)

-- ---- hops of trees that lead away from nodes
module _ (ts : List TreeHop) (away : AreAway ts) where
  falls : (g : Addr) (h h' : LinkHop) → Follows (net_with ts) g h h' → weight h' < weight h
  falls g h h' f =
      let p = in_tree ts g f.source h f.first in
      let q = in_tree ts g f.source h' f.second in
      let a = away p.0 p.1 in
      let b = away q.0 q.1 in
      let same : b.node ≡ a.node = one_home b.node a.node b.within a.within (sym b.source ∙ q.3 ∙ sym p.3 ∙ a.source) in
      let ih : In h (hops_away a.node) = subst (λ (x : LinkHop). In x (hops_away a.node)) p.4 a.hop in
      let jh : In h' (hops_away a.node) = subst (λ (n : ℕ). In h' (hops_away n)) same (subst (λ (x : LinkHop). In x (hops_away b.node)) q.4 b.hop) in
      falls_in_tree a.node a.within h h' (away_is a.node a.within h ih) (away_is a.node a.within h' jh) f.meet

  falls_along : (g : Addr) (h : LinkHop) (c : List LinkHop) → Chain (followers (net_with ts) g) (hops_of ts g) (h ∷ c) → weight (last_of h c) ≤ weight h
  falls_along g h [] chain = omega arith
  falls_along g h (x ∷ c) chain =
      let less = falls g h x (follower_follows (net_with ts) g h x chain.1) in
      let rest = falls_along g x c chain.2 in
      omega (arith, less, rest)

  pub loop_free : (g : Addr) → IsLoopFreeIn (net_with ts) g
  loop_free g h c closed =
      let less = falls g (last_of h c) h (follower_follows (net_with ts) g (last_of h c) h closed.1) in
      let rest = falls_along g h c closed.0 in
      omega (arith, less, rest)
