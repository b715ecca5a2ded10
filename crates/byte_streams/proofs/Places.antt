-- Which of two places in a list of lines comes first.
use Rattle.std.proofs.Common.{◌≡◌, ◌⊎◌, ℕ, List, [], ◌∷◌, ◌++◌, refl, sym, ap, ◌∙◌, inl, inr}

abbrev pub Places : List (List ℕ) → List ℕ → List (List ℕ) → List ℕ → Type 0
Places xs t ys u = ((xs ≡ ys) × (t ≡ u)) ⊎ (((more : List (List ℕ)) × (xs ≡ ys ++ u ∷ more)) ⊎ ((more : List (List ℕ)) × (ys ≡ xs ++ t ∷ more)))

same_first : {A : Type 0} (x y : A) (xs ys : List A) → x ∷ xs ≡ y ∷ ys → (x ≡ y) × (xs ≡ ys)
same_first x y xs ys e =
    let head : x ≡ y = cc in
    let tail : xs ≡ ys = cc in
    (head, tail)

pub which_place : (xs : List (List ℕ)) (t : List ℕ) (after ys : List (List ℕ)) (u : List ℕ) (behind : List (List ℕ)) → xs ++ t ∷ after ≡ ys ++ u ∷ behind → Places xs t ys u
which_place [] t after [] u behind e = inl (refl, (same_first t u after behind e).0)
which_place [] t after (y ∷ ys) u behind e = inr (inr (ys, ap (λ l. l ∷ ys) (sym (same_first t y after (ys ++ u ∷ behind) e).0)))
which_place (x ∷ xs) t after [] u behind e = inr (inl (xs, ap (λ l. l ∷ xs) (same_first x u (xs ++ t ∷ after) behind e).0))
which_place (x ∷ xs) t after (y ∷ ys) u behind e =
    let same = same_first x y (xs ++ t ∷ after) (ys ++ u ∷ behind) e in
    elim (which_place xs t after ys u behind same.1) [
      | inl h ↦ inl (ap (λ l. x ∷ l) h.0 ∙ ap (λ l. l ∷ ys) same.0, h.1)
      | inr h ↦ elim h [
        | inl m ↦ inr (inl (m.0, ap (λ l. x ∷ l) m.1 ∙ ap (λ l. l ∷ (ys ++ u ∷ m.0)) same.0))
        | inr m ↦ inr (inr (m.0, ap (λ l. y ∷ l) m.1 ∙ ap (λ l. l ∷ (xs ++ t ∷ m.0)) (sym same.0)))
      ]
    ]
