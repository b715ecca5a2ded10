-- All of a list by an operation: what it keeps, what it stands above.
use Rattle.std.specs.Prelude.{◌≡◌, Some, None, List, [], ◌∷◌, ◌++◌, map as each, refl}
use Rattle.std.proofs.Common.{sym, ap, subst, ◌∙◌, inl, inr, ⊎_elim}
use Rattle.std.specs.List.{fold}
use Rattle.rsvp_base.specs.Members.{In}
use Rattle.style_rules.specs.Merge.{all_by}

module _ {X : Type 0} (op : X → X → X) where
  pub fold_keeps : (P : X → Type 0) → ((a b : X) → P a → P b → P (op a b)) → (x : X) (xs : List X) → P x → ((y : X) → In y xs → P y) → P (fold op x xs)
  fold_keeps P step x [] h every = h
  fold_keeps P step x (y ∷ xs) h every = fold_keeps P step (op x y) xs (step x y h (every y (inl refl))) (λ z i. every z (inr i))

  -- what holds of each, and of two together, holds of all together
  pub all_keeps : (P : X → Type 0) → ((a b : X) → P a → P b → P (op a b)) → (xs : List X) (m : X) → all_by op xs ≡ Some m → ((y : X) → In y xs → P y) → P m
  all_keeps P step [] m e every = absurd (cc)
  all_keeps P step (x ∷ xs) m e every = let is : fold op x xs ≡ m = cc in subst P is (fold_keeps P step x xs (every x (inl refl)) (λ y i. every y (inr i)))

  pub fold_above : (R : X → X → Type 0) → ((a : X) → R a a) → ((a b c : X) → R a b → R b c → R a c) → ((a b : X) → R a (op a b)) → ((a b : X) → R b (op a b))
      → (x : X) (xs : List X) → R x (fold op x xs)
  fold_above R itself along left right x [] = itself x
  fold_above R itself along left right x (y ∷ xs) = along x (op x y) (fold op (op x y) xs) (left x y) (fold_above R itself along left right (op x y) xs)

  later_above : (R : X → X → Type 0) → ((a : X) → R a a) → ((a b c : X) → R a b → R b c → R a c) → ((a b : X) → R a (op a b)) → ((a b : X) → R b (op a b))
      → (x : X) (xs : List X) (y : X) → In y xs → R y (fold op x xs)
  later_above R itself along left right x [] y i = absurd i
  later_above R itself along left right x (z ∷ xs) y i =
      ⊎_elim
      (λ (e : y ≡ z). subst (λ w. R w (fold op (op x z) xs)) (sym e) (along z (op x z) (fold op (op x z) xs) (right x z) (fold_above R itself along left right (op x z) xs)))
      (λ (j : In y xs). later_above R itself along left right (op x z) xs y j) i

  -- all together stand above each, where two together stand above either
  pub all_above : (R : X → X → Type 0) → ((a : X) → R a a) → ((a b c : X) → R a b → R b c → R a c) → ((a b : X) → R a (op a b)) → ((a b : X) → R b (op a b))
      → (xs : List X) (m : X) → all_by op xs ≡ Some m → (y : X) → In y xs → R y m
  all_above R itself along left right [] m e y i = absurd i
  all_above R itself along left right (x ∷ xs) m e y i =
      let is : fold op x xs ≡ m = cc in
      subst (R y) is
      (⊎_elim (λ (h : y ≡ x). subst (λ w. R w (fold op x xs)) (sym h) (fold_above R itself along left right x xs)) (λ (j : In y xs). later_above R itself along left right x xs y j) i)

  -- ---- some or none
  pub all_some : (xs : List X) (y : X) → In y xs → (m : X) × (all_by op xs ≡ Some m)
  all_some [] y i = absurd i
  all_some (x ∷ xs) y i = (fold op x xs, refl)

  pub some_all : (xs : List X) (m : X) → all_by op xs ≡ Some m → (x : X) × In x xs
  some_all [] m e = absurd (cc)
  some_all (x ∷ xs) m e = (x, inl refl)

  -- ---- one more
  fold_push : (x : X) (xs : List X) (y : X) → fold op x (xs ++ y ∷ []) ≡ op (fold op x xs) y
  fold_push x [] y = refl
  fold_push x (z ∷ xs) y = fold_push (op x z) xs y

  pub all_push : (xs : List X) (y m : X) → all_by op xs ≡ Some m → all_by op (xs ++ y ∷ []) ≡ Some (op m y)
  all_push [] y m e = absurd (cc)
  all_push (x ∷ xs) y m e = let is : fold op x xs ≡ m = cc in ap Some (fold_push x xs y ∙ ap (λ z. op z y) is)

  pub all_push_first : (xs : List X) (y : X) → all_by op xs ≡ None → all_by op (xs ++ y ∷ []) ≡ Some y
  all_push_first [] y e = refl
  all_push_first (x ∷ xs) y e = absurd (cc)

-- one operation under a function is another
pub all_under : {X Y : Type 0} (op : X → X → X) (op' : Y → Y → Y) (f : X → Y) → ((a b : X) → f (op a b) ≡ op' (f a) (f b)) → (xs : List X) (m : X) → all_by op xs ≡ Some m
    → all_by op' (each f xs) ≡ Some (f m)
all_under op op' f same [] m e = absurd (cc)
all_under op op' f same (x ∷ xs) m e = let is : fold op x xs ≡ m = cc in ap Some (folds x xs (f x) refl) ∙ ap (λ z. Some (f z)) is
  where
    folds : (x : _) (xs : List _) (y : _) → y ≡ f x → fold op' y (each f xs) ≡ f (fold op x xs)
    folds x [] y e = e
    folds x (z ∷ xs) y e = folds (op x z) xs (op' y (f z)) (ap (λ w. op' w (f z)) e ∙ sym (same x z))
