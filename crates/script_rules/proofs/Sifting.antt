-- Lists of which only those are kept that pass a test.
use Rattle.std.specs.Prelude.{◌≡◌, Bool, true, false, cond, ◌&&◌, List, [], ◌∷◌, map as each, refl}
use Rattle.std.specs.List.{filter}
use Rattle.std.proofs.Common.{ap, sym, ◌∙◌, inl, inr}
use Rattle.rsvp_base.specs.Members.{In}

-- ---- tests
-- two tests are the same where each passes if the other does
pub one_test : (a b : Bool) → (a ≡ true → b ≡ true) → (b ≡ true → a ≡ true) → a ≡ b
one_test true b f g = sym (f refl)
one_test false true f g = g refl
one_test false false f g = refl

module _ {A : Type 0} (p : A → Bool) where
  keep : Bool → A → List A → List A
  keep b x xs = cond b (x ∷ xs) xs

  -- all that are in it pass
  pub filter_all : (xs : List A) → ((x : A) → In x xs → p x ≡ true) → filter p xs ≡ xs
  filter_all [] h = refl
  filter_all (x ∷ xs) h =
      ap (λ b. cond b (x ∷ filter p xs) (filter p xs)) (h x (inl refl)) ∙ ap (λ l. x ∷ l) (filter_all xs (λ y i. h y (inr i)))

  -- two tests that say the same of all that are in it
  pub filter_like : (q : A → Bool) (xs : List A) → ((x : A) → In x xs → p x ≡ q x) → filter p xs ≡ filter q xs
  filter_like q [] h = refl
  filter_like q (x ∷ xs) h =
      ap (λ b. cond b (x ∷ filter p xs) (filter p xs)) (h x (inl refl)) ∙ ap (λ l. cond (q x) (x ∷ l) l) (filter_like q xs (λ y i. h y (inr i)))

  -- one test behind another
  pub filter_twice : (q : A → Bool) (xs : List A) → filter q (filter p xs) ≡ filter (λ x. p x && q x) xs
  filter_twice q [] = refl
  filter_twice q (x ∷ xs) = by (p x) ∙ ap (λ l. cond (p x && q x) (x ∷ l) l) (filter_twice q xs)
    where
      by : (b : Bool) → filter q (cond b (x ∷ filter p xs) (filter p xs)) ≡ cond (b && q x) (x ∷ filter q (filter p xs)) (filter q (filter p xs))
      by true = refl
      by false = refl

module _ {A B : Type 0} (f : A → B) (p : B → Bool) where
  -- what f gives of those whose f passes
  pub filter_each : (xs : List A) → filter p (each f xs) ≡ each f (filter (λ x. p (f x)) xs)
  filter_each [] = refl
  filter_each (x ∷ xs) = ap (λ l. cond (p (f x)) (f x ∷ l) l) (filter_each xs) ∙ by (p (f x))
    where
      by : (b : Bool) → cond b (f x ∷ each f (filter (λ x. p (f x)) xs)) (each f (filter (λ x. p (f x)) xs)) ≡ each f (cond b (x ∷ filter (λ x. p (f x)) xs) (filter (λ x. p (f x)) xs))
      by true = refl
      by false = refl
