-- Lists with no repeats: put together; and none is longer than a list that has its members.
use Rattle.std.proofs.Common.{◌≡◌, suc, ◌≤◌, List, [], ◌∷◌, ◌++◌, length, inl, inr, ⊎_elim, arith, sym, refl, ◌∙◌, ap, subst}
use Rattle.rsvp_base.specs.Members.{In}
use Rattle.rsvp_base.proofs.Members.{in_append}
use Rattle.tree_model.specs.Chains.{NoRepeats}

-- two that have no member in common
pub once_append : {A : Type 0} (xs ys : List A) → NoRepeats xs → NoRepeats ys → ((z : A) → In z xs → In z ys → ⊥) → NoRepeats (xs ++ ys)
once_append [] ys a b apart = b
once_append {A} (x ∷ xs) ys a b apart =
    (λ i. ⊎_elim (λ (j : In x xs). a.0 j) (λ (j : In x ys). apart x (inl refl) j) (in_append x xs ys i), once_append xs ys a.1 b (λ z i j. apart z (inr i) j))

-- the list without one of its members
abbrev pub but : {A : Type 0} (x : A) (ys : List A) → In x ys → List A
but x [] i = []
but x (y ∷ ys) i = elim i [ inl e ↦ ys | inr j ↦ y ∷ but x ys j ]

length_but : {A : Type 0} (x : A) (ys : List A) (i : In x ys) → suc (length (but x ys i)) ≡ length ys
length_but x [] i = absurd i
length_but x (y ∷ ys) (inl e) = refl
length_but x (y ∷ ys) (inr j) = ap suc (length_but x ys j)

pub in_but : {A : Type 0} (x z : A) (ys : List A) (i : In x ys) → (z ≡ x → ⊥) → In z ys → In z (but x ys i)
in_but x z [] i ne k = absurd k
in_but x z (y ∷ ys) (inl e) ne (inl k) = absurd (ne (k ∙ sym e))
in_but x z (y ∷ ys) (inl e) ne (inr k) = k
in_but x z (y ∷ ys) (inr j) ne (inl k) = inl k
in_but x z (y ∷ ys) (inr j) ne (inr k) = inr (in_but x z ys j ne k)

pub not_longer : {A : Type 0} (xs ys : List A) → NoRepeats xs → ((z : A) → In z xs → In z ys) → length xs ≤ length ys
not_longer [] ys once f = omega arith
not_longer {A} (x ∷ xs) ys once f =
    let i : In x ys = f x (inl refl) in
    omega (
      arith,
      length_but x ys i,
      not_longer xs (but x ys i) once.1 (λ z k. in_but x z ys i (λ e. once.0 (subst (λ (a : A). In a xs) e k)) (f z (inr k))),
    )
