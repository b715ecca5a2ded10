-- Numbers of a range that are kept by a test.
use Rattle.std.specs.Prelude.{◌≡◌, ℕ, ◌+◌, ◌<◌, Bool, false, cond, List, [], ◌∷◌, ◌++◌, refl}
use Rattle.std.specs.List.{filter, range_with_len}
use Rattle.std.proofs.Common.{zero, suc, ap, ◌∙◌, inl, inr, ⊎_elim, arith}
use Rattle.std.proofs.lemmas.List.Elements.{filter-append}
use Rattle.rsvp_base.specs.Members.{In}

range_more : (a n : ℕ) → range_with_len a (suc n) ≡ range_with_len a n ++ (a + n) ∷ []
range_more a zero = let e : a ≡ a + 0 = omega arith in ap (λ k. k ∷ []) e
range_more a (suc n) =
    let e : a + 1 + n ≡ a + suc n = omega arith in
    ap (λ xs. a ∷ xs) (range_more (a + 1) n ∙ ap (λ k. range_with_len (a + 1) n ++ k ∷ []) e)

-- one number more
pub kept_more : (p : ℕ → Bool) (i : ℕ) → filter p (range_with_len 0 (i + 1)) ≡ filter p (range_with_len 0 i) ++ cond (p i) (i ∷ []) []
kept_more p i =
    let e : i + 1 ≡ suc i = omega arith in
    let z : 0 + i ≡ i = omega arith in
    ap (λ k. filter p (range_with_len 0 k)) e ∙ ap (filter p) (range_more 0 i ∙ ap (λ k. range_with_len 0 i ++ k ∷ []) z) ∙ filter-append p (range_with_len 0 i) (i ∷ [])

pub in_range : (x a n : ℕ) → In x (range_with_len a n) → x < a + n
in_range x a zero i = absurd i
in_range x a (suc n) i = ⊎_elim (λ (e : x ≡ a). let r : x < a + suc n = omega (arith, e) in r) (λ (j : In x (range_with_len (a + 1) n)). let lt = in_range x (a + 1) n j in omega (arith, lt)) i

-- a test that agrees on the list keeps the same
pub kept_same : (p q : ℕ → Bool) (xs : List ℕ) → ((x : ℕ) → In x xs → p x ≡ q x) → filter p xs ≡ filter q xs
kept_same p q [] same = refl
kept_same p q (x ∷ xs) same = λ i. cond (same x (inl refl) i) (x ∷ kept_same p q xs (λ y j. same y (inr j)) i) (kept_same p q xs (λ y j. same y (inr j)) i)

-- a test that fails on all of the list keeps nothing
pub kept_none : (p : ℕ → Bool) (xs : List ℕ) → ((x : ℕ) → In x xs → p x ≡ false) → filter p xs ≡ []
kept_none p [] none = refl
kept_none p (x ∷ xs) none = ap (λ b. cond b (x ∷ filter p xs) (filter p xs)) (none x (inl refl)) ∙ kept_none p xs (λ y j. none y (inr j))
