-- Lists that are mapped, filtered and joined: one after another, and where only some of the elements count.
use Rattle.std.specs.Prelude.{◌≡◌, Bool, true, false, cond, List, [], ◌∷◌, ◌++◌, map as each, Option, None, refl}
use Rattle.std.specs.List.{cons_option, filter, filter_map, flat_map}
use Rattle.std.proofs.Common.{sym, ap, ◌∙◌, inl, inr}
use Rattle.rsvp_base.specs.Members.{In}

-- tests that pass together are equal
pub same_test : (x y : Bool) → (x ≡ true → y ≡ true) → (y ≡ true → x ≡ true) → x ≡ y
same_test true y f g = sym (f refl)
same_test false true f g = g refl
same_test false false f g = refl

-- ---- one after another
pub each_each : {A B C : Type 0} (f : A → B) (g : B → C) (xs : List A) → each g (each f xs) ≡ each (λ x. g (f x)) xs
each_each f g [] = refl
each_each f g (x ∷ xs) = λ i. g (f x) ∷ each_each f g xs i

pub flat_each : {A B C : Type 0} (f : A → B) (g : B → List C) (xs : List A) → flat_map g (each f xs) ≡ flat_map (λ x. g (f x)) xs
flat_each f g [] = refl
flat_each f g (x ∷ xs) = λ i. g (f x) ++ flat_each f g xs i

pub filter_each : {A B : Type 0} (p : B → Bool) (f : A → B) (xs : List A) → filter p (each f xs) ≡ each f (filter (λ x. p (f x)) xs)
filter_each p f [] = refl
filter_each {A} {B} p f (x ∷ xs) = by (p (f x)) (filter_each p f xs)
  where
    by : (b : Bool) → filter p (each f xs) ≡ each f (filter (λ x. p (f x)) xs) → cond b (f x ∷ filter p (each f xs)) (filter p (each f xs))
        ≡ each f (cond b (x ∷ filter (λ x. p (f x)) xs) (filter (λ x. p (f x)) xs))
    by true e = λ i. f x ∷ e i
    by false e = e

-- tests that agree on the members
pub filter_same : {A : Type 0} (p q : A → Bool) (xs : List A) → ((x : A) → In x xs → p x ≡ q x) → filter p xs ≡ filter q xs
filter_same p q [] h = refl
filter_same {A} p q (x ∷ xs) h = by (p x) (q x) (h x (inl refl)) (filter_same p q xs (λ y i. h y (inr i)))
  where
    by : (a b : Bool) → a ≡ b → filter p xs ≡ filter q xs → cond a (x ∷ filter p xs) (filter p xs) ≡ cond b (x ∷ filter q xs) (filter q xs)
    by a b e rest = λ i. cond (e i) (x ∷ rest i) (rest i)

-- ---- where what fails a test gives nothing
module _ {A B : Type 0} (t : A → Bool) where
  pub flat_map_only : (h : A → List B) → ((x : A) → t x ≡ false → h x ≡ []) → (xs : List A) → flat_map h xs ≡ flat_map h (filter t xs)
  flat_map_only h none [] = refl
  flat_map_only h none (x ∷ xs) =
      elim (t x) as (λ b. t x ≡ b → (h x ++ flat_map h xs) ≡ flat_map h (cond b (x ∷ filter t xs) (filter t xs))) [
        | true ↦ λ e. ap (λ ys. h x ++ ys) (flat_map_only h none xs)
        | false ↦ λ e. ap (λ ys. ys ++ flat_map h xs) (none x e) ∙ flat_map_only h none xs
      ] refl

  pub filter_map_among : (h : A → Option B) → (xs : List A) → ((x : A) → In x xs → t x ≡ false → h x ≡ None) → filter_map h xs ≡ filter_map h (filter t xs)
  filter_map_among h [] none = refl
  filter_map_among h (x ∷ xs) none =
      let rest = filter_map_among h xs (λ y i. none y (inr i)) in
      elim (t x) as (λ b. t x ≡ b → filter_map h (x ∷ xs) ≡ filter_map h (cond b (x ∷ filter t xs) (filter t xs))) [
        | true ↦ λ e. ap (cons_option (h x)) rest
        | false ↦ λ e. ap (λ w. cons_option w (filter_map h xs)) (none x (inl refl) e) ∙ rest
      ] refl

  pub filter_map_only : (h : A → Option B) → ((x : A) → t x ≡ false → h x ≡ None) → (xs : List A) → filter_map h xs ≡ filter_map h (filter t xs)
  filter_map_only h none xs = filter_map_among h xs (λ x i e. none x e)

-- those of a test are among those of another, where what fails the other fails it
pub filter_only : {A : Type 0} (t q : A → Bool) (xs : List A) → ((x : A) → In x xs → t x ≡ false → q x ≡ false) → filter q xs ≡ filter q (filter t xs)
filter_only t q [] none = refl
filter_only t q (x ∷ xs) none =
    let rest = filter_only t q xs (λ y i. none y (inr i)) in
    elim (t x) as (λ b. t x ≡ b → cond (q x) (x ∷ filter q xs) (filter q xs) ≡ filter q (cond b (x ∷ filter t xs) (filter t xs))) [
      | true ↦ λ e. λ i. cond (q x) (x ∷ rest i) (rest i)
      | false ↦ λ e. ap (λ b. cond b (x ∷ filter q xs) (filter q xs)) (none x (inl refl) e) ∙ rest
    ] refl
