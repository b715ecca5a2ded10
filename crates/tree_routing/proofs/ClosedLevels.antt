-- Levels rise along a closed chain without end: where none is above the number of hops, no chain is closed.
use Rattle.std.specs.Prelude.{◌≡◌, ℕ, ◌+◌, ◌<◌, ◌≤◌, List, [], ◌∷◌, length, replicate, Option, Some}
use Rattle.std.proofs.Common.{zero, suc, sym, ap, subst, ◌∙◌, inl, inr, ⊎_elim, arith}
use Rattle.rsvp_base.specs.Members.{In}
use Rattle.tree_model.specs.Chains.{last_of}
use Rattle.tree_model.proofs.Heights.{below_largest}
use Rattle.tree_routing.specs.declared.known.Known.{Known}
use Rattle.tree_routing.specs.Checks.{Closes}
use Rattle.tree_routing.specs.Levels.{level, lift_along, lift, lifts, levels, highest}
use Rattle.tree_routing.specs.Reroutes.{AreBefore}
use Rattle.tree_routing.specs.Walks.{Steps, Edge, Leads}
use Rattle.tree_routing.proofs.LevelLaws.{length_along, along_more, along_edge, length_lift, lift_more, level_one, length_ones}

-- where levels are small after a pass, each edge has counted
lift_counts : (ks : List Known) (ls : List ℕ) → ((k : Known) → In k ks → level (lift ks ls) k.vertex < 65535) → (k : Known) → In k ks → (a : ℕ) → k.before ≡ Some a → a < length ls
    → level ls k.vertex + 1 ≤ level (lift ks ls) a
lift_counts [] ls small k i a e inside = absurd i
lift_counts (x ∷ xs) ls small k i a e inside =
    let next = lift_along x.before x.vertex ls in
    let rest = lift_counts xs next (λ y j. small y (inr j)) k in
    ⊎_elim
    (λ (s : k ≡ x).
    let sm = small k (inl s) in
    let one = along_more x.before x.vertex ls k.vertex in
    let all = lift_more xs next k.vertex in
    let at : level ls k.vertex + 1 ≤ level (lift_along (Some a) k.vertex ls) a = along_edge a k.vertex ls inside (omega arith) in
    let is : lift_along (Some a) k.vertex ls ≡ next = ap (λ (o : Option ℕ). lift_along o k.vertex ls) (sym e) ∙ ap (λ (y : Known). lift_along y.before y.vertex ls) s in
    let up = lift_more xs next a in
    let same = ap (λ (l : List ℕ). level l a) is in
    omega arith)
    (λ (j : In k xs).
    let r = rest j a e (let z = length_along x.before x.vertex ls in omega arith) in
    let m = along_more x.before x.vertex ls k.vertex in
    omega arith) i

lifts_more : (n : ℕ) (ks : List Known) (ls : List ℕ) (w : ℕ) → level ls w ≤ level (lifts n ks ls) w
lifts_more zero ks ls w = omega arith
lifts_more (suc n) ks ls w = let a = lift_more ks ls w in let b = lifts_more n ks (lift ks ls) w in omega arith

module _ (ks : List Known) (closing : Known) (among : In closing ks) (closes : Closes ks closing) where
  -- edges lead from the vertex to the hop before the one that closes the chain
  abbrev On : ℕ → Type 0
  On w = Leads ks w closes.before

  -- each is followed by one more
  next_on : (w : ℕ) → On w → (k : Known) × In k ks × (k.before ≡ Some w) × On k.vertex
  next_on w on = by w on.path on.steps on.ends
    where
      by : (a : ℕ) (path : List ℕ) → Steps (Edge ks) a path → last_of a path ≡ closes.before → (k : Known) × In k ks × (k.before ≡ Some a) × On k.vertex
      by a [] steps e = (closing, among, closes.is ∙ ap Some (sym e), closes.leads)
      by a (b ∷ bs) steps e =
          let edge = steps.0 in
          (edge.known, edge.among, edge.before, subst On (sym edge.vertex) (record { path = bs; steps = steps.1; ends = e }))

  rise : (n m : ℕ) (ls : List ℕ) → ((k : Known) → In k ks → (a : ℕ) → k.before ≡ Some a → a < length ls) → ((k : Known) → In k ks → level (lifts n ks ls) k.vertex < 65535)
      → ((w : ℕ) → On w → m ≤ level ls w) → (w : ℕ) → On w
      → m + n ≤ level (lifts n ks ls) w
  rise zero m ls inside small least w on = let a = least w on in omega arith
  rise (suc n) m ls inside small least w on =
      let r = rise n (suc m) (lift ks ls) (λ k i a e. let x = inside k i a e in let z = length_lift ks ls in omega arith) small up w on in
      omega arith
    where
      up : (w : ℕ) → On w → suc m ≤ level (lift ks ls) w
      up w on =
          let k = next_on w on in
          let counts = lift_counts ks ls (λ y i. let a = small y i in let b = lifts_more n ks (lift ks ls) y.vertex in omega arith) k.0 k.1 w k.2 (inside k.0 k.1 w k.2) in
          let low = least k.0.vertex k.3 in
          omega arith

  level_up : length ks ≤ 8192 → AreBefore (length ks) ks → highest ks (levels ks) ≤ length ks → ⊥
  level_up few before most =
      let size = length_ones (length ks) in
      let small : (k : Known) → In k ks → level (levels ks) k.vertex ≤ length ks = λ k i. let a = below_largest (λ (x : Known). level (levels ks) x.vertex) k ks i in omega arith in
      let start : (w : ℕ) → On w → 1 ≤ level (replicate (length ks) 1) w = λ w on. let k = next_on w on in let e = level_one (length ks) w (before k.0 k.1 w k.2) in omega arith in
      let up = rise (length ks) 1 (replicate (length ks) 1) (λ k i a e. let b = before k i a e in omega arith) (λ k i. let a = small k i in omega arith) start closing.vertex closes.leads in
      let top = small closing among in
      omega arith

pub none_above : (ks : List Known) → length ks ≤ 8192 → AreBefore (length ks) ks → highest ks (levels ks) ≤ length ks → (k : Known) → In k ks → Closes ks k → ⊥
none_above ks few before most k i closes = level_up ks k i closes few before most
