-- Of rows in order whose keys begin with a number, those under one number stand together.
use Rattle.std.specs.Prelude.{◌≡◌, ℕ, ◌<◌, ◌≤◌, Bool, true, false, cond, List, [], ◌∷◌, map as each, length, refl}
use Rattle.std.proofs.Common.{zero, suc, ap, ◌∙◌, arith, T, get_or}
use Rattle.std.proofs.lemmas.Bool.Decides.{nat_tests}
use Rattle.std.specs.List.Sorted.{IsNonDecreasingBy}
use Rattle.std.specs.declared.cmp.Ordering.{Ordering}
use Rattle.std.specs.declared.cmp.Ordering.TheVariants.{Less, Equal, Greater}
use Rattle.std.specs.Ordering.{eq_by_cmp, is_lt, nat_cmp, ordering_then}
use Rattle.std.specs.FinMap.Entries.{below_all, is_sorted, where_key}
use Rattle.rsvp_base.specs.Keys.{Keys, numbers, pairs}
use Rattle.rsvp_base.specs.Rows.{AreRows}
use Rattle.rsvp_base.specs.Table.{passes, first, second}
use Rattle.rsvp_base.specs.Under.{rows_under}

no_less : (a b : ℕ) (r : Ordering) → T (is_lt (ordering_then (nat_cmp a b) r)) → a ≤ b
no_less a b r h =
    elim (nat_cmp a b) as (λ o. nat_cmp a b ≡ o → T (is_lt (ordering_then o r)) → a ≤ b) [
      | Less ↦ λ e _. grind (arith, nat_tests)
      | Equal ↦ λ e _. grind (arith, nat_tests)
      | Greater ↦ λ e h. absurd h
    ] refl h

pub tied : (n m : ℕ) → m ≡ n → eq_by_cmp nat_cmp n m ≡ true
tied n m e = grind (arith, nat_tests)

pub untied : (n m : ℕ) → (n ≡ m → ⊥) → eq_by_cmp nat_cmp n m ≡ false
untied n m ne = grind (arith, nat_tests)

module _ {A K X : Type 0} (o : Keys K) (row : A → (ℕ × K) × X) where
  -- ---- the numbers do not fall along the rows
  no_less_than : (p : ℕ × K) (ys : List A) (j : ℕ) (d : A) → T (below_all (pairs numbers o).cmp p (each row ys)) → j < length ys → p.0 ≤ (row (get_or ys j d)).0.0
  no_less_than p [] j d h lt = absurd (omega arith)
  no_less_than p (y ∷ ys) zero d h lt = no_less p.0 (row y).0.0 (o.cmp p.1 (row y).0.1) (first _ _ h)
  no_less_than p (y ∷ ys) (suc j) d h lt = no_less_than p ys j d (second _ _ h) (omega arith)

  by_sorted : (xs : List A) → T (is_sorted (pairs numbers o).cmp (each row xs)) → IsNonDecreasingBy (λ a. (row a).0.0) xs
  by_sorted [] up i j d le lt = absurd (omega arith)
  by_sorted (x ∷ xs) up zero zero d le lt = omega arith
  by_sorted (x ∷ xs) up zero (suc j) d le lt = no_less_than (row x).0 xs j d (first _ _ up) (omega arith)
  by_sorted (x ∷ xs) up (suc i) zero d le lt = absurd (omega arith)
  by_sorted (x ∷ xs) up (suc i) (suc j) d le lt = by_sorted xs (second _ _ up) i j d (omega arith) (omega arith)

  pub numbers_rise : (xs : List A) → AreRows (pairs numbers o) row xs → IsNonDecreasingBy (λ a. (row a).0.0) xs
  numbers_rise xs up = by_sorted xs (passes _ up)

  -- ---- the rows under a number
  abbrev pub rows_of : ℕ → List A → List (K × X)
  rows_of n xs = rows_under numbers o n (each row xs)

  -- by the test that keeps a row
  pub rows_cons : (n : ℕ) (x : A) (xs : List A) (b : Bool) → eq_by_cmp nat_cmp n (row x).0.0 ≡ b → rows_of n (x ∷ xs) ≡ cond b (((row x).0.1, (row x).1) ∷ rows_of n xs) (rows_of n xs)
  rows_cons n x xs true t = ap (λ b. each (λ e. (e.0.1, e.1)) (cond b (row x ∷ where_key (pairs numbers o).cmp (λ k. eq_by_cmp nat_cmp n k.0) (each row xs))
      (where_key (pairs numbers o).cmp (λ k. eq_by_cmp nat_cmp n k.0) (each row xs)))) t
  rows_cons n x xs false t = ap (λ b. each (λ e. (e.0.1, e.1)) (cond b (row x ∷ where_key (pairs numbers o).cmp (λ k. eq_by_cmp nat_cmp n k.0) (each row xs))
      (where_key (pairs numbers o).cmp (λ k. eq_by_cmp nat_cmp n k.0) (each row xs)))) t

  -- past the rows of a number there is none of it
  pub none_past : (n : ℕ) (xs : List A) → ((j : ℕ) (d : A) → j < length xs → n < (row (get_or xs j d)).0.0) → rows_of n xs ≡ []
  none_past n [] past = refl
  none_past n (x ∷ xs) past =
      let here = past 0 x (omega arith) in
      rows_cons n x xs false (untied n (row x).0.0 (λ e. omega arith)) ∙ none_past n xs (λ j d lt. past (suc j) d (omega arith))
