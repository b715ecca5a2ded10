-- Numbers in a row.
use Rattle.std.proofs.Common.{◌≡◌, ℕ, ◌+◌, ◌*◌, ◌-◌, ◌<◌, ◌≤◌, zero, suc, Bool, true, List, [], ◌∷◌, ◌++◌, Some, refl, sym, ap, subst, ◌∙◌, inl, inr, ⊎_elim, arith}
use Rattle.std.specs.Prelude.{slice_get, map as each}
use Rattle.std.specs.List.{flat_map, list_all, range_with_len}
use Rattle.std.proofs.lemmas.List.FromFn.{map-range_with_len_more}
use Rattle.std.proofs.lemmas.Bool.{cases_lt}
use Rattle.rsvp_base.specs.Members.{In}
use Rattle.rsvp_base.proofs.Members.{all_in}

each_itself : (xs : List ℕ) → each (λ (x : ℕ). x) xs ≡ xs
each_itself [] = refl
each_itself (x ∷ xs) = ap (λ (ys : List ℕ). x ∷ ys) (each_itself xs)

pub range_more : (a n : ℕ) → range_with_len a (n + 1) ≡ range_with_len a n ++ (a + n) ∷ []
range_more a n =
    sym (each_itself (range_with_len a (n + 1))) ∙ map-range_with_len_more (λ (x : ℕ). x) a n (a + n) refl ∙ ap (λ (xs : List ℕ). xs ++ (a + n) ∷ []) (each_itself (range_with_len a n))

pub in_range : (a n i : ℕ) → In i (range_with_len a n) → (a ≤ i) × (i < a + n)
in_range a zero i h = absurd h
in_range a (suc n) i h =
    ⊎_elim (λ (e : i ≡ a). (omega (arith, e), omega (arith, e)))
    (λ (j : In i (range_with_len (a + 1) n)). let r = in_range (a + 1) n i j in let lo = r.0 in let hi = r.1 in (omega (arith, lo), omega (arith, hi))) h

pub to_range : (a n i : ℕ) → a ≤ i → i < a + n → In i (range_with_len a n)
to_range a zero i lo hi = absurd (omega arith)
to_range a (suc n) i lo hi =
    ⊎_elim (λ (h : a < i). inr (to_range (a + 1) n i (omega arith) (omega arith))) (λ (h : i ≤ a). let e : i ≡ a = omega arith in inl e) (cases_lt a i)

-- a test of each number of a row
pub at_each : (test : ℕ → Bool) (a n i : ℕ) → list_all test (range_with_len a n) ≡ true → a ≤ i → i < a + n → test i ≡ true
at_each test a n i all lo hi = all_in test (range_with_len a n) all i (to_range a n i lo hi)

-- two things for each number of a row
pub record IsPair {A : Type 0} (xs : List A) (i : ℕ) (x y : A) : Type 0 where
  pub one : slice_get xs i ≡ Some x
  pub other : slice_get xs (suc i) ≡ Some y

pub pair_at : {A : Type 0} (f g : ℕ → A) (a n i : ℕ) → a ≤ i → i < a + n → IsPair (flat_map (λ k. f k ∷ g k ∷ []) (range_with_len a n)) (2 * (i - a)) (f i) (g i)
pair_at f g a zero i lo hi = absurd (omega arith)
pair_at {A} f g a (suc n) i lo hi =
    ⊎_elim
    (λ (h : a < i).
    let r = pair_at f g (a + 1) n i (omega arith) (omega arith) in
    let at : 2 * (i - a) ≡ suc (suc (2 * (i - (a + 1)))) = omega arith in
    let rest : List A = flat_map (λ k. f k ∷ g k ∷ []) (range_with_len (a + 1) n) in
    subst (λ (m : ℕ). IsPair (f a ∷ g a ∷ rest) m (f i) (g i)) (sym at) (record { one = r.one; other = r.other }))
    (λ (h : i ≤ a).
    let e : a ≡ i = omega arith in
    let at : 2 * (i - a) ≡ 0 = omega arith in
    let rest : List A = flat_map (λ k. f k ∷ g k ∷ []) (range_with_len (a + 1) n) in
    subst (λ (m : ℕ). IsPair (f a ∷ g a ∷ rest) m (f i) (g i)) (sym at) (record { one = ap (λ m. Some (f m)) e; other = ap (λ m. Some (g m)) e }))
    (cases_lt a i)
