-- Counting by rows and by columns.
use Rattle.std.proofs.Common.{◌≡◌, suc, ◌+◌, ◌≤◌, List, [], ◌∷◌, ◌++◌, length, Bool, true, false, cond, inl, inr, arith, sym, refl, ap, subst, ◌∙◌, append_assoc}
use Rattle.std.specs.Prelude.{sum_by}
use Rattle.std.specs.List.{filter, flat_map}
use Rattle.std.proofs.lemmas.List.Sums.{sum_by-cons}
use Rattle.rsvp_base.specs.Members.{In}
use Rattle.rsvp_base.proofs.Members.{in_filter}
use Rattle.laws_bounds.proofs.Lists.{none_in}
use Rattle.tree_model.specs.Chains.{NoRepeats}

pub flat_append : {A B : Type 0} (g : A → List B) (xs ys : List A) → flat_map g (xs ++ ys) ≡ flat_map g xs ++ flat_map g ys
flat_append g [] ys = refl
flat_append {A} {B} g (x ∷ xs) ys = ap (λ (zs : List B). g x ++ zs) (flat_append g xs ys) ∙ sym (append_assoc (g x) (flat_map g xs) (flat_map g ys))

pub flat_flat : {A B C : Type 0} (f : A → List B) (g : B → List C) (xs : List A) → flat_map g (flat_map f xs) ≡ flat_map (λ x. flat_map g (f x)) xs
flat_flat f g [] = refl
flat_flat {A} {B} {C} f g (x ∷ xs) = flat_append g (f x) (flat_map f xs) ∙ ap (λ (zs : List C). flat_map g (f x) ++ zs) (flat_flat f g xs)

-- of things of which no two are the same, at most one passes a test that makes them so
pub one_at_most : {A : Type 0} (t : A → Bool) (ks : List A) → NoRepeats ks → ((a b : A) → In a ks → In b ks → t a ≡ true → t b ≡ true → a ≡ b) → length (filter t ks) ≤ 1
one_at_most t [] once one = omega arith
one_at_most {A} t (k ∷ ks) once one = by (t k) refl (one_at_most t ks once.1 (λ a b i j p q. one a b (inr i) (inr j) p q))
  where
    by : (b : Bool) → t k ≡ b → length (filter t ks) ≤ 1 → length (cond b (k ∷ filter t ks) (filter t ks)) ≤ 1
    by false is rest = rest
    by true is rest =
        let none : filter t ks ≡ [] =
        none_in (filter t ks) (λ x i. let r = in_filter t x ks i in once.0 (subst (λ (z : A). In z ks) (sym (one k x (inl refl) (inr r.0) is r.1)) r.0)) in
        omega (arith, ap length none)

pub none_pass : {A : Type 0} (t : A → Bool) (ks : List A) → ((a : A) → In a ks → t a ≡ true → ⊥) → length (filter t ks) ≡ 0
none_pass t ks never = ap length (none_in (filter t ks) (λ x i. let r = in_filter t x ks i in never x r.0 r.1))

module _ {A B : Type 0} (r : A → B → Bool) where
  no_columns : (ks : List A) → sum_by (λ l. length (filter (r l) [])) ks ≡ 0
  no_columns [] = refl
  no_columns (k ∷ ks) = let rest = no_columns ks in omega (arith, rest, sum_by-cons (λ l. length (filter (r l) [])) k ks)

  column : (x : B) (xs : List B) (ks : List A) → sum_by (λ l. length (filter (r l) (x ∷ xs))) ks ≡ length (filter (λ l. r l x) ks) + sum_by (λ l. length (filter (r l) xs)) ks
  column x xs [] = omega arith
  column x xs (k ∷ ks) = by (r k x) refl (column x xs ks)
    where
      by : (b : Bool) → r k x ≡ b → sum_by (λ l. length (filter (r l) (x ∷ xs))) ks ≡ length (filter (λ l. r l x) ks) + sum_by (λ l. length (filter (r l) xs)) ks
          → sum_by (λ l. length (filter (r l) (x ∷ xs))) (k ∷ ks) ≡ length (filter (λ l. r l x) (k ∷ ks)) + sum_by (λ l. length (filter (r l) xs)) (k ∷ ks)
      by true is rest =
          let a = sum_by-cons (λ l. length (filter (r l) (x ∷ xs))) k ks in
          let b = sum_by-cons (λ l. length (filter (r l) xs)) k ks in
          let c : length (filter (r k) (x ∷ xs)) ≡ suc (length (filter (r k) xs)) = ap (λ (z : Bool). length (cond z (x ∷ filter (r k) xs) (filter (r k) xs))) is in
          let d : length (filter (λ l. r l x) (k ∷ ks)) ≡ suc (length (filter (λ l. r l x) ks)) = ap (λ (z : Bool). length (cond z (k ∷ filter (λ l. r l x) ks) (filter (λ l. r l x) ks))) is in
          omega (arith, a, b, c, d, rest)
      by false is rest =
          let a = sum_by-cons (λ l. length (filter (r l) (x ∷ xs))) k ks in
          let b = sum_by-cons (λ l. length (filter (r l) xs)) k ks in
          let c : length (filter (r k) (x ∷ xs)) ≡ length (filter (r k) xs) = ap (λ (z : Bool). length (cond z (x ∷ filter (r k) xs) (filter (r k) xs))) is in
          let d : length (filter (λ l. r l x) (k ∷ ks)) ≡ length (filter (λ l. r l x) ks) = ap (λ (z : Bool). length (cond z (k ∷ filter (λ l. r l x) ks) (filter (λ l. r l x) ks))) is in
          omega (arith, a, b, c, d, rest)

  -- where each column has one at most, and none unless it passes a test, rows come to no more than the columns that pass
  pub by_columns : (t : B → Bool) (ks : List A) (xs : List B) → ((x : B) → In x xs → t x ≡ true → length (filter (λ l. r l x) ks) ≤ 1)
      → ((x : B) → In x xs → t x ≡ false → length (filter (λ l. r l x) ks) ≡ 0) → sum_by (λ l. length (filter (r l) xs)) ks ≤ length (filter t xs)
  by_columns t ks [] one none = let z = no_columns ks in omega (arith, z)
  by_columns t ks (x ∷ xs) one none = by (t x) refl (by_columns t ks xs (λ y i. one y (inr i)) (λ y i. none y (inr i)))
    where
      by : (b : Bool) → t x ≡ b → sum_by (λ l. length (filter (r l) xs)) ks ≤ length (filter t xs) → sum_by (λ l. length (filter (r l) (x ∷ xs))) ks ≤ length (cond b (x ∷ filter t xs) (filter t xs))
      by true is rest = let c = column x xs ks in let o = one x (inl refl) is in omega (arith, rest, c, o)
      by false is rest = let c = column x xs ks in let o = none x (inl refl) is in omega (arith, rest, c, o)

pub more_pass : {A : Type 0} (s t : A → Bool) (xs : List A) → ((x : A) → In x xs → s x ≡ true → t x ≡ true) → length (filter s xs) ≤ length (filter t xs)
more_pass s t [] more = omega arith
more_pass {A} s t (x ∷ xs) more = by (s x) (t x) refl refl (more_pass s t xs (λ y i. more y (inr i)))
  where
    by : (a b : Bool) → s x ≡ a → t x ≡ b → length (filter s xs) ≤ length (filter t xs) → length (cond a (x ∷ filter s xs) (filter s xs)) ≤ length (cond b (x ∷ filter t xs) (filter t xs))
    by true true e f rest = omega (arith, rest)
    by true false e f rest = let bad : true ≡ false = sym (more x (inl refl) e) ∙ f in absurd (cc)
    by false true e f rest = omega (arith, rest)
    by false false e f rest = rest
