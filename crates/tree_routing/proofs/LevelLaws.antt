-- The highest level is the length of the longest chain.
use Rattle.std.specs.Prelude.{◌≡◌, ◌⊎◌, ℕ, ◌+◌, ◌<◌, ◌≤◌, Bool, true, false, List, [], ◌∷◌, length, map as each, replicate, Option, None, Some, slice_get, slice_set, refl, if◌then◌else◌}
use Rattle.std.proofs.Common.{zero, suc, sym, ap, subst, ◌∙◌, inl, inr, ⊎_elim, arith}
use Rattle.std.proofs.lemmas.Bool.Decides.{nat_tests}
use Rattle.rsvp_base.proofs.Fronts.{got_in}
use Rattle.rsvp_base.specs.Members.{In}
use Rattle.rsvp_base.specs.declared.addr.Addr.{Addr}
use Rattle.tree_model.specs.declared.hops.End.{End}
use Rattle.tree_model.specs.declared.hops.LinkHop.{LinkHop}
use Rattle.tree_model.specs.declared.hops.TreeHop.{TreeHop}
use Rattle.tree_model.specs.Networks.{Net, node_of}
use Rattle.tree_model.specs.Trees.{of_group, tree, hops_of, IsGrown}
use Rattle.tree_model.specs.Chains.{largest, height}
use Rattle.tree_model.specs.Ranks.{Follows, followers, rank, rank_of, longest}
use Rattle.tree_model.specs.Valid.{IsValid}
use Rattle.std.specs.List.{filter}
use Rattle.std.proofs.lemmas.List.{length-map}
use Rattle.rsvp_base.proofs.Lists.{length_filter}
use Rattle.tree_model.proofs.Following.{follower_follows, follower_of_group}
use Rattle.tree_model.proofs.Heights.{largest_is, height_le, height_enough}
use Rattle.tree_model.proofs.RankLaws.{rank_of_hop, rank_some, rank_falls_at}
use Rattle.tree_model.proofs.TreeLaws.{one_into}
use Rattle.tree_routing.specs.declared.known.Known.{Known}
use Rattle.tree_routing.specs.declared.link.Link.{Link}
use Rattle.tree_routing.specs.Known.{plain, net_of, is_pair, vertex_at, AreKnown}
use Rattle.tree_routing.specs.Levels.{level, rises, lift_along, lift, lifts, levels, highest}
use Rattle.tree_routing.proofs.Vertices.{place_found, pair_told, pair_itself, tree_known, known_tree, known_group, comes_told, comes_made, before_told, before_found, vertex_below}

-- ---- levels set
set_here : (ls : List ℕ) (a x : ℕ) → a < length ls → level (slice_set ls a x) a ≡ x
set_here [] a x lt = absurd (omega arith)
set_here (l ∷ ls) zero x lt = refl
set_here (l ∷ ls) (suc a) x lt = set_here ls a x (omega arith)

set_other : (ls : List ℕ) (a x v : ℕ) → (v ≡ a → ⊥) → level (slice_set ls a x) v ≡ level ls v
set_other [] a x v ne = refl
set_other (l ∷ ls) zero x zero ne = absurd (ne refl)
set_other (l ∷ ls) zero x (suc v) ne = refl
set_other (l ∷ ls) (suc a) x zero ne = refl
set_other (l ∷ ls) (suc a) x (suc v) ne = set_other ls a x v (λ e. ne (ap suc e))

length_set : (ls : List ℕ) (a x : ℕ) → length (slice_set ls a x) ≡ length ls
length_set [] a x = refl
length_set (l ∷ ls) zero x = refl
length_set (l ∷ ls) (suc a) x = ap suc (length_set ls a x)

level_outside : (ls : List ℕ) (a : ℕ) → length ls ≤ a → level ls a ≡ 0
level_outside [] a le = refl
level_outside (l ∷ ls) zero le = absurd (omega arith)
level_outside (l ∷ ls) (suc a) le = level_outside ls a (omega arith)

set_at_least : (ls : List ℕ) (a x v : ℕ) → level ls a ≤ x → level ls v ≤ level (slice_set ls a x) v
set_at_least [] a x v le = omega arith
set_at_least (l ∷ ls) zero x zero le = le
set_at_least (l ∷ ls) zero x (suc v) le = omega arith
set_at_least (l ∷ ls) (suc a) x zero le = omega arith
set_at_least (l ∷ ls) (suc a) x (suc v) le = set_at_least ls a x v le

set_at_most : (ls : List ℕ) (a x v b : ℕ) → level ls v ≤ b → (v ≡ a → x ≤ b) → level (slice_set ls a x) v ≤ b
set_at_most [] a x v b le f = le
set_at_most (l ∷ ls) zero x zero b le f = f refl
set_at_most (l ∷ ls) zero x (suc v) b le f = le
set_at_most (l ∷ ls) (suc a) x zero b le f = le
set_at_most (l ∷ ls) (suc a) x (suc v) b le f = set_at_most ls a x v b le (λ e. f (ap suc e))

-- ---- along an edge
pub length_along : (o : Option ℕ) (v : ℕ) (ls : List ℕ) → length (lift_along o v ls) ≡ length ls
length_along None v ls = refl
length_along (Some a) v ls = by (rises (Some a) v ls)
  where
    by : (b : Bool) → length (if b then slice_set ls a (level ls v + 1) else ls) ≡ length ls
    by true = length_set ls a (level ls v + 1)
    by false = refl

-- where it rises, the first was not above
rises_told : (a v : ℕ) (ls : List ℕ) → rises (Some a) v ls ≡ true → level ls a ≤ level ls v
rises_told a v ls e = grind (arith, nat_tests)

-- where it does not, and levels are small, it is above
rests_told : (a v : ℕ) (ls : List ℕ) → rises (Some a) v ls ≡ false → a < length ls → level ls v < 65535 → level ls v + 1 ≤ level ls a
rests_told a v ls e inside lt = grind (arith, nat_tests)

pub along_more : (o : Option ℕ) (v : ℕ) (ls : List ℕ) (w : ℕ) → level ls w ≤ level (lift_along o v ls) w
along_more None v ls w = omega arith
along_more (Some a) v ls w = by (rises (Some a) v ls) refl
  where
    by : (b : Bool) → rises (Some a) v ls ≡ b → level ls w ≤ level (if b then slice_set ls a (level ls v + 1) else ls) w
    by true t = let le = rises_told a v ls t in set_at_least ls a (level ls v + 1) w (omega arith)
    by false t = omega arith

pub along_edge : (a v : ℕ) (ls : List ℕ) → a < length ls → level ls v < 65535 → level ls v + 1 ≤ level (lift_along (Some a) v ls) a
along_edge a v ls inside small = by (rises (Some a) v ls) refl
  where
    by : (b : Bool) → rises (Some a) v ls ≡ b → level ls v + 1 ≤ level (if b then slice_set ls a (level ls v + 1) else ls) a
    by true t = let e = set_here ls a (level ls v + 1) inside in omega arith
    by false t = rests_told a v ls t inside small

along_most : (o : Option ℕ) (v : ℕ) (ls : List ℕ) (top : ℕ → ℕ) → ((a : ℕ) → o ≡ Some a → top v + 1 ≤ top a) → ((w : ℕ) → level ls w ≤ top w) → (w : ℕ) → level (lift_along o v ls) w ≤ top w
along_most None v ls top f most w = most w
along_most (Some a) v ls top f most w = by (rises (Some a) v ls)
  where
    by : (b : Bool) → level (if b then slice_set ls a (level ls v + 1) else ls) w ≤ top w
    by true =
        set_at_most ls a (level ls v + 1) w (top w) (most w)
        (λ e. let up = f a refl in let le = most v in let same = ap top e in omega arith)
    by false = most w

-- ---- along all of them
pub length_lift : (ks : List Known) (ls : List ℕ) → length (lift ks ls) ≡ length ls
length_lift [] ls = refl
length_lift (k ∷ ks) ls = length_lift ks (lift_along k.before k.vertex ls) ∙ length_along k.before k.vertex ls

-- where nothing rises once, nothing rises later
pub lifts_still : (n : ℕ) (ks : List Known) (ls : List ℕ) → lift ks ls ≡ ls → lifts n ks ls ≡ ls
lifts_still zero ks ls e = refl
lifts_still (suc n) ks ls e = ap (lifts n ks) e ∙ lifts_still n ks ls e

-- where nothing rose, what stands is what all passes give
pub settled : (n : ℕ) (ks : List Known) (ls after all : List ℕ) → after ≡ lift ks ls → after ≡ ls → lifts n ks ls ≡ all → after ≡ all
settled n ks ls after all e s whole = s ∙ sym (lifts_still n ks ls (sym e ∙ s)) ∙ whole

pub lift_more : (ks : List Known) (ls : List ℕ) (w : ℕ) → level ls w ≤ level (lift ks ls) w
lift_more [] ls w = omega arith
lift_more (k ∷ ks) ls w = let a = along_more k.before k.vertex ls w in let b = lift_more ks (lift_along k.before k.vertex ls) w in omega arith

module _ (top : ℕ → ℕ) (small : (w : ℕ) → top w < 65535) where
  lift_most : (ks : List Known) (ls : List ℕ) → ((k : Known) → In k ks → (a : ℕ) → k.before ≡ Some a → top k.vertex + 1 ≤ top a) → ((w : ℕ) → level ls w ≤ top w) → (w : ℕ)
      → level (lift ks ls) w ≤ top w
  lift_most [] ls f most w = most w
  lift_most (k ∷ ks) ls f most w = lift_most ks (lift_along k.before k.vertex ls) (λ x i. f x (inr i)) (along_most k.before k.vertex ls top (f k (inl refl)) most) w

  -- each edge is counted
  lift_edge : (ks : List Known) (ls : List ℕ) → ((k : Known) → In k ks → (a : ℕ) → k.before ≡ Some a → top k.vertex + 1 ≤ top a) → ((w : ℕ) → level ls w ≤ top w) → (k : Known) → In k ks → (a : ℕ)
      → k.before ≡ Some a → a < length ls → level ls k.vertex + 1 ≤ level (lift ks ls) a
  lift_edge [] ls f most k i a e inside = absurd i
  lift_edge (x ∷ xs) ls f most k i a e inside =
      let next = along_most x.before x.vertex ls top (f x (inl refl)) most in
      let rest = lift_edge xs (lift_along x.before x.vertex ls) (λ y j. f y (inr j)) next k in
      ⊎_elim
      (λ (s : k ≡ x).
      let sm = small k.vertex in
      let le = most k.vertex in
      let at : level ls k.vertex + 1 ≤ level (lift_along (Some a) k.vertex ls) a = along_edge a k.vertex ls inside (omega arith) in
      let is : lift_along (Some a) k.vertex ls ≡ lift_along x.before x.vertex ls = ap (λ (o : Option ℕ). lift_along o k.vertex ls) (sym e) ∙ ap (λ (y : Known). lift_along y.before y.vertex ls) s in
      let up = lift_more xs (lift_along x.before x.vertex ls) a in
      let same = ap (λ (l : List ℕ). level l a) is in
      omega arith)
      (λ (j : In k xs).
      let r = rest j a e (let z = length_along x.before x.vertex ls in omega arith) in
      let m = along_more x.before x.vertex ls k.vertex in
      omega arith) i

  lifts_most : (ks : List Known) (n : ℕ) (ls : List ℕ) → ((k : Known) → In k ks → (a : ℕ) → k.before ≡ Some a → top k.vertex + 1 ≤ top a) → ((w : ℕ) → level ls w ≤ top w) → (w : ℕ)
      → level (lifts n ks ls) w ≤ top w
  lifts_most ks zero ls f most w = most w
  lifts_most ks (suc n) ls f most w = lifts_most ks n (lift ks ls) f (lift_most ks ls f most) w

one_level : (n v : ℕ) → level (replicate n 1) v ≤ 1
one_level zero v = omega arith
one_level (suc n) zero = omega arith
one_level (suc n) (suc v) = one_level n v

pub level_one : (n v : ℕ) → v < n → level (replicate n 1) v ≡ 1
level_one zero v lt = absurd (omega arith)
level_one (suc n) zero lt = refl
level_one (suc n) (suc v) lt = level_one n v (omega arith)

pub length_ones : (n : ℕ) → length {A = ℕ} (replicate n 1) ≡ n
length_ones zero = refl
length_ones (suc n) = ap suc (length_ones n)

-- ---- edges of the graph
module _ (nodes : ℕ) (ends : List End) (links : List Link) (ks : List Known) (grown : (g s : Addr) → IsGrown (net_of nodes ends links ks) s (tree (plain ks) g s)) (known : AreKnown ends ks) where
  abbrev graph : Net
  graph = net_of nodes ends links ks

  -- each follower stands behind an edge
  pub edge_of : (g : Addr) (a b : LinkHop) → Follows graph g a b → (k : Known) × In k ks × (k.hop.group ≡ g) × (k.hop.hop ≡ b) × (k.before ≡ Some (vertex_at ks g a))
  edge_of g a b f =
      let x = tree_known ks g f.source a f.first in
      let k = tree_known ks g f.source b f.second in
      let to : node_of ends x.0.hop.hop.to ≡ node_of ends k.0.hop.hop.from = ap (λ (y : LinkHop). node_of ends y.to) x.4 ∙ sym f.meet ∙ ap (λ (y : LinkHop). node_of ends y.from) (sym k.4) in
      let y = before_found ends k.0.hop ks x.0 x.1 (comes_made ends k.0.hop x.0 (x.2 ∙ sym k.2) (x.3 ∙ sym k.3) to) in
      let c = comes_told ends k.0.hop y.0 y.2 in
      let in_both : In y.0.hop.hop (tree (plain ks) g f.source) = subst (λ (s : Addr). In y.0.hop.hop (tree (plain ks) g s)) (c.1 ∙ k.3)
      (subst (λ (d : Addr). In y.0.hop.hop (tree (plain ks) d y.0.hop.source)) (c.0 ∙ k.2) (known_tree ks y.0 y.1)) in
      let is : y.0.hop.hop ≡ a = one_into graph f.source [] (tree (plain ks) g f.source) (grown g f.source) y.0.hop.hop a in_both f.first
      (c.2 ∙ ap (λ (z : LinkHop). node_of ends z.from) k.4 ∙ f.meet) in
      let vertex : y.0.vertex ≡ vertex_at ks g a = (known y.0 y.1).vertex ∙ ap (λ (d : Addr). vertex_at ks d y.0.hop.hop) (c.0 ∙ k.2) ∙ ap (λ (z : LinkHop). vertex_at ks g z) is in
      (k.0, k.1, k.2, k.4, (known k.0 k.1).before ∙ y.3 ∙ ap Some vertex)

-- ---- the rank of the hop at a vertex
module _ (nodes : ℕ) (ends : List End) (links : List Link) (ks : List Known) (valid : IsValid (net_of nodes ends links ks)) (known : AreKnown ends ks) where
  abbrev net : Net
  net = net_of nodes ends links ks

  rank_at : Option Known → ℕ
  rank_at None = 0
  rank_at (Some k) = rank net k.hop.group k.hop.hop

  top : ℕ → ℕ
  top v = rank_at (slice_get ks v)

  in_group_of : (k : Known) → In k ks → In k.hop.hop (hops_of (plain ks) k.hop.group)
  in_group_of k i = known_group ks k i

  top_at : (k : Known) → In k ks → top k.vertex ≡ rank net k.hop.group k.hop.hop
  unfolding top rank_at
  top_at k i =
      let x = place_found (is_pair k.hop.group k.hop.hop) ks k i (pair_itself k) in
      let p = pair_told k.hop.group k.hop.hop x.0 x.2 in
      ap (λ (v : ℕ). rank_at (slice_get ks v)) (known k i).vertex ∙ ap rank_at x.1 ∙ ap (λ (a : Addr). rank net a x.0.hop.hop) p.0 ∙ ap (λ (h : LinkHop). rank net k.hop.group h) p.1

  few_of_group : (g : Addr) → length (hops_of (plain ks) g) ≤ length ks
  few_of_group g =
      let a = length-map (filter (of_group g) (plain ks)) (λ (r : TreeHop). r.hop) in
      let b = length_filter (of_group g) (plain ks) in
      let c = length-map ks (λ (k : Known). k.hop) in
      omega arith

  few : length ks ≤ 8192
  few = let a = valid.few_hops in let c = length-map ks (λ (k : Known). k.hop) in omega arith

  rank_small : (k : Known) → In k ks → rank net k.hop.group k.hop.hop ≤ length ks
  rank_small k i =
      let g = k.hop.group in
      let e = rank_of_hop net g k.hop.hop (in_group_of k i) in
      let le = height_le (followers net g) (hops_of net.hops g) (follower_of_group net g) (valid.loop_free g) (length (hops_of net.hops g)) k.hop.hop (in_group_of k i) in
      let f = few_of_group g in
      omega arith

  none_past : {X : Type 0} (xs : List X) (i : ℕ) → slice_get xs i ≡ None → length xs ≤ i
  none_past [] i e = omega arith
  none_past (x ∷ xs) zero e = cc
  none_past (x ∷ xs) (suc i) e = let r = none_past xs i e in omega arith

  top_small : (w : ℕ) → top w < 65535
  unfolding top rank_at
  top_small w = by (slice_get ks w) refl
    where
      by : (o : Option Known) → slice_get ks w ≡ o → rank_at o < 65535
      by None e = omega arith
      by (Some k) e = let a = rank_small k (got_in ks w k e) in let b = few in omega arith

  start_most : (w : ℕ) → level (replicate (length ks) 1) w ≤ top w
  unfolding top rank_at
  start_most w = by (slice_get ks w) refl
    where
      by : (o : Option Known) → slice_get ks w ≡ o → level (replicate (length ks) 1) w ≤ rank_at o
      by None e =
          let past = none_past ks w e in
          let out = level_outside (replicate (length ks) 1) w (let l = length_ones (length ks) in omega arith) in
          omega arith
      by (Some k) e =
          let i = got_in ks w k e in
          let some = rank_some net valid.loop_free k.hop.group k.hop.hop (in_group_of k i) in
          let one = one_level (length ks) w in
          omega arith

  -- an edge goes from a larger rank to a smaller one
  edge_falls : (k : Known) → In k ks → (a : ℕ) → k.before ≡ Some a → top k.vertex + 1 ≤ top a
  edge_falls k i a e =
      let x = before_told ends k.hop ks a (sym (known k i).before ∙ e) in
      let c = comes_told ends k.hop x.0 x.2 in
      let g = k.hop.group in
      let first : In x.0.hop.hop (tree (plain ks) g k.hop.source) = subst (λ (s : Addr). In x.0.hop.hop (tree (plain ks) g s)) c.1
      (subst (λ (b : Addr). In x.0.hop.hop (tree (plain ks) b x.0.hop.source)) c.0 (known_tree ks x.0 x.1)) in
      let f : Follows net g x.0.hop.hop k.hop.hop = record { source = k.hop.source; first = first; second = known_tree ks k i; meet = sym c.2 } in
      let fall = rank_falls_at net valid.loop_free g x.0.hop.hop k.hop.hop f in
      let at_k = top_at k i in
      let at_x = top_at x.0 x.1 ∙ ap (λ (b : Addr). rank net b x.0.hop.hop) c.0 in
      let same = ap top x.3 in
      omega arith

  -- levels that are at least so high, and no higher than ranks
  record High (j : ℕ) (ls : List ℕ) : Type 0 where
    size : length ls ≡ length ks
    some : (k : Known) → In k ks → 1 ≤ level ls k.vertex
    most : (w : ℕ) → level ls w ≤ top w
    least : (k : Known) → In k ks → height (followers net k.hop.group) j k.hop.hop ≤ level ls k.vertex

  high_start : High 0 (replicate (length ks) 1)
  high_start =
      record {
        size = length_ones (length ks);
        some = λ k i. let lt = vertex_below ends ks known k i in let e = level_one (length ks) k.vertex lt in omega arith;
        most = start_most;
        least = λ k i. omega arith;
      }

  high_next : (j : ℕ) (ls : List ℕ) → High j ls → High (suc j) (lift ks ls)
  high_next j ls h =
      record {
        size = length_lift ks ls ∙ h.size;
        some = λ k i. let a = h.some k i in let b = lift_more ks ls k.vertex in omega arith;
        most = lift_most top top_small ks ls edge_falls h.most;
        least = λ k i. by k i (largest_is (λ x. height (followers net k.hop.group) j x) (followers net k.hop.group k.hop.hop));
      }
    where
      by : (k : Known) → In k ks → (followers net k.hop.group k.hop.hop ≡ []) ⊎ ((x : LinkHop) × In x (followers net k.hop.group k.hop.hop)
          × (height (followers net k.hop.group) j x ≡ largest (each (λ x. height (followers net k.hop.group) j x) (followers net k.hop.group k.hop.hop))))
          → height (followers net k.hop.group) (suc j) k.hop.hop ≤ level (lift ks ls) k.vertex
      by k i (inl e) =
          let none : largest (each (λ x. height (followers net k.hop.group) j x) (followers net k.hop.group k.hop.hop)) ≡ 0 =
          ap (λ (xs : List LinkHop). largest (each (λ x. height (followers net k.hop.group) j x) xs)) e in
          let a = h.some k i in let b = lift_more ks ls k.vertex in omega arith
      by k i (inr x) =
          let g = k.hop.group in
          let y = edge_of nodes ends links ks valid.grown known g k.hop.hop x.0 (follower_follows net g k.hop.hop x.0 x.1) in
          let before : y.0.before ≡ Some k.vertex = y.4 ∙ ap Some (sym (known k i).vertex) in
          let up = lift_edge top top_small ks ls edge_falls h.most y.0 y.1 k.vertex before (let lt = vertex_below ends ks known k i in let s = h.size in omega arith) in
          let low : height (followers net g) j x.0 ≤ level ls y.0.vertex = subst (λ (z : LinkHop). height (followers net g) j z ≤ level ls y.0.vertex) y.3
          (subst (λ (d : Addr). height (followers net d) j y.0.hop.hop ≤ level ls y.0.vertex) y.2 (h.least y.0 y.1)) in
          let at = x.2 in
          omega arith

  high_lifts : (n j : ℕ) (ls : List ℕ) → High j ls → High (n + j) (lifts n ks ls)
  high_lifts zero j ls h = let e : 0 + j ≡ j = omega arith in subst (λ (m : ℕ). High m ls) (sym e) h
  high_lifts (suc n) j ls h =
      let e : n + suc j ≡ suc n + j = omega arith in
      subst (λ (m : ℕ). High m (lifts n ks (lift ks ls))) e (high_lifts n (suc j) (lift ks ls) (high_next j ls h))

  pub level_is_rank : (k : Known) → In k ks → level (levels ks) k.vertex ≡ rank net k.hop.group k.hop.hop
  level_is_rank k i =
      let g = k.hop.group in
      let h = high_lifts (length ks) 0 (replicate (length ks) 1) high_start in
      let low = h.least k i in
      let up = h.most k.vertex in
      let at = top_at k i in
      let e : length ks + 0 ≡ length ks = omega arith in
      let fuel = ap (λ (n : ℕ). height (followers net g) n k.hop.hop) e ∙ height_enough (followers net g) (hops_of net.hops g) (follower_of_group net g) (valid.loop_free g) (length ks) k.hop.hop
      (in_group_of k i) (few_of_group g) in
      let is = rank_of_hop net g k.hop.hop (in_group_of k i) in
      omega arith

  pub highest_is_longest : highest ks (levels ks) ≡ longest net
  highest_is_longest = ap largest (same ks (λ k i. i))
    where
      same : (xs : List Known) → ((k : Known) → In k xs → In k ks) → each (λ k. level (levels ks) k.vertex) xs ≡ each (rank_of net) (plain xs)
      same [] sub = refl
      same (x ∷ xs) sub = λ i. level_is_rank x (sub x (inl refl)) i ∷ same xs (λ k j. sub k (inr j)) i
