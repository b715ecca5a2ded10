-- Lists that agree place by place.
use Rattle.std.proofs.Common.{◌≡◌, ℕ, zero, suc, List, [], ◌∷◌, ◌++◌, None, Some, length, refl, ap, subst}
use Rattle.std.specs.Prelude.{slice_get}
use Rattle.std.specs.List.{AllZip, remove}

module _ {A B : Type 0} (R : A → B → Type 0) where
  pub all_zip_get : (xs : List A) (ys : List B) (k : ℕ) (x : A) → AllZip R xs ys → slice_get xs k ≡ Some x → (y : B) × (slice_get ys k ≡ Some y) × R x y
  all_zip_get [] ys k x z e = absurd (cc)
  all_zip_get (a ∷ xs) [] k x z e = absurd z
  all_zip_get (a ∷ xs) (b ∷ ys) zero x z e = let same : a ≡ x = (let h : Some a ≡ Some x = e in cc) in (b, refl, subst (λ c. R c b) same z.0)
  all_zip_get (a ∷ xs) (b ∷ ys) (suc k) x z e = all_zip_get xs ys k x z.1 e

  pub all_zip_none : (xs : List A) (ys : List B) (k : ℕ) → AllZip R xs ys → slice_get xs k ≡ None → slice_get ys k ≡ None
  all_zip_none [] [] k z e = refl
  all_zip_none [] (b ∷ ys) k z e = absurd z
  all_zip_none (a ∷ xs) [] k z e = absurd z
  all_zip_none (a ∷ xs) (b ∷ ys) zero z e = let h : Some a ≡ None = e in absurd (cc)
  all_zip_none (a ∷ xs) (b ∷ ys) (suc k) z e = all_zip_none xs ys k z.1 e

  pub all_zip_remove : (xs : List A) (ys : List B) (k : ℕ) → AllZip R xs ys → AllZip R (remove xs k) (remove ys k)
  all_zip_remove [] [] zero z = tt
  all_zip_remove [] [] (suc k) z = tt
  all_zip_remove [] (b ∷ ys) k z = absurd z
  all_zip_remove (a ∷ xs) [] k z = absurd z
  all_zip_remove (a ∷ xs) (b ∷ ys) zero z = z.1
  all_zip_remove (a ∷ xs) (b ∷ ys) (suc k) z = (z.0, all_zip_remove xs ys k z.1)

  pub all_zip_length : (xs : List A) (ys : List B) → AllZip R xs ys → length xs ≡ length ys
  all_zip_length [] [] z = refl
  all_zip_length [] (b ∷ ys) z = absurd z
  all_zip_length (a ∷ xs) [] z = absurd z
  all_zip_length (a ∷ xs) (b ∷ ys) z = ap suc (all_zip_length xs ys z.1)

pub remove_past : {A : Type 0} (xs : List A) (k : ℕ) → slice_get xs k ≡ None → remove xs k ≡ xs
remove_past [] zero e = refl
remove_past [] (suc k) e = refl
remove_past (x ∷ xs) zero e = let h : Some x ≡ None = e in absurd (cc)
remove_past (x ∷ xs) (suc k) e = ap (λ ys. x ∷ ys) (remove_past xs k e)

pub all_zip_append : {A B : Type 0} (R : A → B → Type 0) (xs xs' : List A) (ys ys' : List B) → AllZip R xs ys → AllZip R xs' ys' → AllZip R (xs ++ xs') (ys ++ ys')
all_zip_append R [] xs' [] ys' a b = b
all_zip_append R [] xs' (y ∷ ys) ys' a b = absurd a
all_zip_append R (x ∷ xs) xs' [] ys' a b = absurd a
all_zip_append R (x ∷ xs) xs' (y ∷ ys) ys' a b = (a.0, all_zip_append R xs xs' ys ys' a.1 b)
