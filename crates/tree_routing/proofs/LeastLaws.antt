-- The least hop so far, and with one hop more.
use Rattle.std.specs.Prelude.{◌≡◌, ◌⊎◌, ℕ, ◌+◌, ◌<◌, ◌≤◌, List, [], ◌∷◌, ◌++◌, Option, IfSome, length, refl, slice_index_or}
use Rattle.std.proofs.Common.{zero, suc, sym, ap, subst, ◌∙◌, inl, inr, ⊎_elim, arith, take}
use Rattle.rsvp_base.specs.Members.{In}
use Rattle.rsvp_base.proofs.Members.{in_left, in_right, in_append}
use Rattle.tree_model.specs.declared.hops.LinkHop.{LinkHop}
use Rattle.tree_routing.specs.declared.known.Known.{Known}
use Rattle.tree_routing.specs.Answers.{IsUpTo}
use Rattle.tree_routing.specs.Marks.{AreBelow}
use Rattle.tree_routing.specs.Checks.{Closes, IsBetween, IsBetter, IsLesser, IsLeastAmong}
use Rattle.tree_routing.specs.Reroutes.{AreBefore}
use Rattle.tree_routing.specs.Walks.{Edge, Steps}
use Rattle.tree_model.specs.Chains.{last_of}

pub at_in : {X : Type 0} (xs : List X) (i : ℕ) (d : X) → i < length xs → In (slice_index_or xs i d) xs
at_in [] i d lt = absurd (omega arith)
at_in (x ∷ xs) zero d lt = inl refl
at_in (x ∷ xs) (suc i) d lt = inr (at_in xs i d (omega arith))

pub take_one_more : {X : Type 0} (xs : List X) (i : ℕ) (d : X) → i < length xs → take (i + 1) xs ≡ take i xs ++ slice_index_or xs i d ∷ []
take_one_more [] i d lt = absurd (omega arith)
take_one_more (x ∷ xs) zero d lt = refl
take_one_more {X} (x ∷ xs) (suc i) d lt = let e : suc i + 1 ≡ suc (i + 1) = omega arith in ap (λ (n : ℕ). take n (x ∷ xs)) e ∙ ap (λ (ys : List X). x ∷ ys) (take_one_more xs i d (omega arith))

-- one is at most the other, or not
pub up_order : (a b : LinkHop) → IsUpTo a b ⊎ (IsUpTo a b → ⊥)
up_order a b = by_from (grind arith)
  where
    by_to : a.from ≡ b.from → (a.to ≤ b.to) ⊎ (b.to < a.to) → IsUpTo a b ⊎ (IsUpTo a b → ⊥)
    by_to e (inl le) = inl (inr (e, le))
    by_to e (inr gt) = inr (λ u. ⊎_elim (λ (l : a.from < b.from). let x : ⊥ = omega arith in x) (λ (p : (a.from ≡ b.from) × (a.to ≤ b.to)). let q = p.1 in let x : ⊥ = omega arith in x) u)

    by_same : (a.from ≡ b.from) ⊎ (b.from < a.from) → IsUpTo a b ⊎ (IsUpTo a b → ⊥)
    by_same (inl e) = by_to e (grind arith)
    by_same (inr gt) = inr (λ u. ⊎_elim (λ (l : a.from < b.from). let x : ⊥ = omega arith in x) (λ (p : (a.from ≡ b.from) × (a.to ≤ b.to)). let q = p.0 in let x : ⊥ = omega arith in x) u)

    by_from : (a.from < b.from) ⊎ ((a.from ≡ b.from) ⊎ (b.from < a.from)) → IsUpTo a b ⊎ (IsUpTo a b → ⊥)
    by_from (inl lt) = inl (inl lt)
    by_from (inr r) = by_same r

-- what is not at most the other is more
pub up_other : (a b : LinkHop) → (IsUpTo a b → ⊥) → IsUpTo b a
up_other a b not_up = by (grind arith)
  where
    by_to : a.from ≡ b.from → (a.to ≤ b.to) ⊎ (b.to < a.to) → IsUpTo b a
    by_to e (inl le) = absurd (not_up (inr (e, le)))
    by_to e (inr gt) = inr (sym e, omega arith)

    by_same : (a.from ≡ b.from) ⊎ (b.from < a.from) → IsUpTo b a
    by_same (inl e) = by_to e (grind arith)
    by_same (inr gt) = inl gt

    by : (a.from < b.from) ⊎ ((a.from ≡ b.from) ⊎ (b.from < a.from)) → IsUpTo b a
    by (inl lt) = absurd (not_up (inl lt))
    by (inr r) = by_same r

pub up_along : (a b c : LinkHop) → IsUpTo a b → IsUpTo b c → IsUpTo a c
up_along a b c (inl l) (inl m) = inl (omega arith)
up_along a b c (inl l) (inr m) = let e = m.0 in inl (omega arith)
up_along a b c (inr l) (inl m) = let e = l.0 in inl (omega arith)
up_along a b c (inr l) (inr m) = let e = l.1 in let f = m.1 in inr (l.0 ∙ m.0, omega arith)

pub up_itself : (a : LinkHop) → IsUpTo a a
up_itself a = inr (refl, omega arith)

pub least_start : (ks : List Known) (new : Known) (before : ℕ) → IsLeastAmong ks [] new before new.hop.hop
least_start ks new before = record { there = inl refl; first = up_itself new.hop.hop; least = λ k i g b. absurd i }

module _ (ks some : List Known) (new : Known) (before : ℕ) (k : Known) (least : LinkHop) (so_far : IsLeastAmong ks some new before least) where
  better_first : IsBetter ks new before k least → IsLeastAmong ks (some ++ k ∷ []) new before k.hop.hop
  better_first b =
      let less = up_other least k.hop.hop b.1 in
      record {
        there = inr (k, in_right k some (k ∷ []) (inl refl), b.0, refl, b.2);
        first = up_along k.hop.hop least new.hop.hop less so_far.first;
        least = λ x i g w.
            ⊎_elim (λ (j : In x some). up_along k.hop.hop least x.hop.hop less (so_far.least x j g w))
            (λ (j : In x (k ∷ [])). ⊎_elim (λ (e : x ≡ k). subst (λ (y : Known). IsUpTo k.hop.hop y.hop.hop) (sym e) (up_itself k.hop.hop)) (λ (j : ⊥). absurd j) j) (in_append x some (k ∷ []) i);
      }

  same_least : (IsBetter ks new before k least → ⊥) → IsLeastAmong ks (some ++ k ∷ []) new before least
  same_least no_better =
      record {
        there = ⊎_elim (λ (e : least ≡ new.hop.hop). inl e)
            (λ (x : (x : Known) × In x some × (x.hop.group ≡ new.hop.group) × (least ≡ x.hop.hop) × IsBetween ks new.vertex before x.vertex). inr
            (x.0, in_left x.0 some (k ∷ []) x.1, x.2, x.3, x.4)) so_far.there;
        first = so_far.first;
        least = λ x i g w.
            ⊎_elim (λ (j : In x some). so_far.least x j g w)
            (λ (j : In x (k ∷ [])). ⊎_elim (λ (e : x ≡ k). by_order x e g w (up_order least x.hop.hop)) (λ (j : ⊥). absurd j) j) (in_append x some (k ∷ []) i);
      }
    where
      by_order : (x : Known) → x ≡ k → x.hop.group ≡ new.hop.group → IsBetween ks new.vertex before x.vertex → IsUpTo least x.hop.hop ⊎ (IsUpTo least x.hop.hop → ⊥) → IsUpTo least x.hop.hop
      by_order x e g w (inl up) = up
      by_order x e g w (inr not_up) = absurd (no_better (subst (λ (y : Known). IsBetter ks new before y least) e (g, not_up, w)))

  pub least_more : (h : LinkHop) → IsLesser ks new before k least h → IsLeastAmong ks (some ++ k ∷ []) new before h
  least_more h (inl b) = subst (λ (x : LinkHop). IsLeastAmong ks (some ++ k ∷ []) new before x) (sym b.1) (better_first b.0)
  least_more h (inr b) = subst (λ (x : LinkHop). IsLeastAmong ks (some ++ k ∷ []) new before x) (sym b.1) (same_least b.0)

pub vertex_within : (ks : List Known) (n i : ℕ) (d : Known) → AreBelow n ks → i < length ks → (slice_index_or ks i d).vertex ≤ n
vertex_within ks n i d below lt = let r = below (slice_index_or ks i d) (at_in ks i d lt) in omega arith

-- no edge leads from a vertex that no hop has before it, so that a hop that stands there closes no chain
pub new_closes_none : (ks : List Known) (new : Known) → AreBefore (length ks) ks → IfSome new.before (λ b. b < length ks) → new.vertex ≡ length ks → Closes ks new → ⊥
new_closes_none ks new befores below last c = by_path c.leads.path c.leads.steps c.leads.ends
  where
    before_below : c.before < length ks
    before_below = subst (λ (o : Option ℕ). IfSome o (λ b. b < length ks)) c.is below

    by_path : (path : List ℕ) → Steps (Edge ks) new.vertex path → last_of new.vertex path ≡ c.before → ⊥
    by_path [] steps ends = let lt = before_below in omega (arith, lt, ends, last)
    by_path (b ∷ bs) steps ends = let lt = befores steps.0.known steps.0.among new.vertex steps.0.before in omega (arith, lt, last)
