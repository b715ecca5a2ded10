-- Lists whose elements are mapped.
use Rattle.std.proofs.Common.{◌≡◌, ℕ, zero, suc, List, [], ◌∷◌, refl, ap, Bool, true, false, length, ◌<◌, ◌≤◌, ltb-true, ltb-false, arith}
use Rattle.std.specs.Prelude.{map as each, nat_lt}
use Rattle.std.specs.List.{remove}

pub each_remove : {A B : Type 0} (f : A → B) (xs : List A) (k : ℕ) → each f (remove xs k) ≡ remove (each f xs) k
each_remove f [] zero = refl
each_remove f [] (suc k) = refl
each_remove f (x ∷ xs) zero = refl
each_remove f (x ∷ xs) (suc k) = ap (λ ys. f x ∷ ys) (each_remove f xs k)

pub not_below : (a b : ℕ) → (a < b → ⊥) → b ≤ a
not_below a b never = by (nat_lt a b) refl
  where
    by : (t : Bool) → nat_lt a b ≡ t → b ≤ a
    by true t = absurd (never (ltb-true a b t))
    by false t = ltb-false a b t

-- nothing is removed past the end
pub removed_past : {A : Type 0} (xs : List A) (k : ℕ) → length xs ≤ k → remove xs k ≡ xs
removed_past [] zero le = refl
removed_past [] (suc k) le = refl
removed_past (x ∷ xs) zero le = absurd (omega arith)
removed_past (x ∷ xs) (suc k) le = ap (λ ys. x ∷ ys) (removed_past xs k (omega arith))
