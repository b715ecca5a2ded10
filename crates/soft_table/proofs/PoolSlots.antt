-- How slots are read.
use Rattle.std.proofs.Common.{◌≡◌, ◌<◌, ℕ, zero, suc, List, [], ◌∷◌, ◌++◌, length, set, take, drop, map as each, Some, refl, ap, arith, inl, inr, sym, ◌∙◌, subst}
use Rattle.std.specs.Prelude.{slice_get}
use Rattle.std.proofs.lemmas.Bool.{cases_eq}
use Rattle.std.proofs.lemmas.Option.{slice_get_within}

-- a slot that has something in it is one of the slots
pub within : {A : Type 0} (xs : List A) (i : ℕ) (x : A) → slice_get xs i ≡ Some x → i < length xs
within = slice_get_within

pub set_read : {A : Type 0} (xs : List A) (i : ℕ) (a : A) → i < length xs → slice_get (set xs i a) i ≡ Some a
set_read [] i a lt = absurd (omega arith)
set_read (x ∷ xs) zero a lt = refl
set_read (x ∷ xs) (suc i) a lt = set_read xs i a (omega arith)

pub set_elsewhere : {A : Type 0} (xs : List A) (i j : ℕ) (a : A) → (j ≡ i → ⊥) → slice_get (set xs i a) j ≡ slice_get xs j
set_elsewhere [] i j a ne = refl
set_elsewhere (x ∷ xs) zero zero a ne = absurd (ne refl)
set_elsewhere (x ∷ xs) zero (suc j) a ne = refl
set_elsewhere (x ∷ xs) (suc i) zero a ne = refl
set_elsewhere (x ∷ xs) (suc i) (suc j) a ne = set_elsewhere xs i j a (λ e. ne (omega (arith, e)))

-- what a slot has after one was changed
pub after_set : {A : Type 0} (P : ℕ → A → Type 0) (xs : List A) (i : ℕ) (a : A) (j : ℕ) (b : A) → i < length xs → slice_get (set xs i a) j ≡ Some b → P i a
    → ((j ≡ i → ⊥) → slice_get xs j ≡ Some b → P j b) → P j b
after_set P xs i a j b lt is same ne =
    elim (cases_eq j i) [
      | inl e ↦
          let read : Some a ≡ Some b = sym (set_read xs i a lt) ∙ ap (slice_get (set xs i a)) (sym e) ∙ is in
          let eq : a ≡ b = cc in
          subst (λ n. P n b) (sym e) (subst (P i) eq same)
      | inr e ↦ ne e (sym (set_elsewhere xs i j a e) ∙ is)
    ]

pub something : {A : Type 0} (xs : List A) (i : ℕ) → i < length xs → (x : A) × (slice_get xs i ≡ Some x)
something [] i lt = absurd (omega arith)
something (x ∷ xs) zero lt = (x, refl)
something (x ∷ xs) (suc i) lt = something xs i (omega arith)

pub set_same : {A : Type 0} (xs : List A) (i : ℕ) (x : A) → slice_get xs i ≡ Some x → set xs i x ≡ xs
set_same [] i x e = refl
set_same (y ∷ xs) zero x e = let is : x ≡ y = cc in ap (λ z. z ∷ xs) is
set_same (y ∷ xs) (suc i) x e = ap (λ ys. y ∷ ys) (set_same xs i x e)

-- a slot of a list made from another
pub read_each : {A B : Type 0} (f : A → B) (xs : List A) (i : ℕ) (x : A) → slice_get xs i ≡ Some x → slice_get (each f xs) i ≡ Some (f x)
read_each f [] i x e = cc
read_each f (y ∷ xs) zero x e = let is : y ≡ x = cc in ap (λ z. Some (f z)) is
read_each f (y ∷ xs) (suc i) x e = read_each f xs i x e

pub read_back : {A B : Type 0} (f : A → B) (xs : List A) (i : ℕ) (y : B) → slice_get (each f xs) i ≡ Some y → (x : A) × (slice_get xs i ≡ Some x) × (f x ≡ y)
read_back f [] i y e = cc
read_back f (x ∷ xs) zero y e = let is : f x ≡ y = cc in (x, refl, is)
read_back f (x ∷ xs) (suc i) y e = read_back f xs i y e

-- ---- a list changed from the front on
pub length_front : {A : Type 0} (f : A → A) (xs : List A) (i : ℕ) → length (each f (take i xs) ++ drop i xs) ≡ length xs
length_front f [] zero = refl
length_front f [] (suc i) = refl
length_front f (x ∷ xs) zero = refl
length_front f (x ∷ xs) (suc i) = ap suc (length_front f xs i)
