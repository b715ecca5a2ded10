-- Lists and sets: images, filters that agree, keys of a set.
use Rattle.std.specs.Prelude.{is_some, ◌≡◌, ◌≤◌, Bool, true, false, cond, List, [], ◌∷◌, ◌++◌, map as each, Some, refl}
use Rattle.std.specs.List.{filter, flat_map}
use Rattle.std.proofs.Common.{sym, ap, subst, ◌∙◌, inl, inr, arith}
use Rattle.std.proofs.lemmas.List.{length-map}
use Rattle.rsvp_base.specs.Keys.{Keys}
use Rattle.rsvp_base.specs.Members.{In}
use Rattle.rsvp_base.specs.Sets.{Set, set_of}
use Rattle.rsvp_base.specs.Table.{get, has, keys, size}
use Rattle.rsvp_base.proofs.Counts.{in_found, found_in, in_set_of, set_below, size-set_of}
use Rattle.rsvp_base.proofs.Members.{in_each, to_each}
use Rattle.settle_paths.proofs.Known.{has_some}

pub same_bool : (a b : Bool) → (a ≡ true → b ≡ true) → (b ≡ true → a ≡ true) → a ≡ b
same_bool true true f g = refl
same_bool true false f g = sym (f refl)
same_bool false true f g = g refl
same_bool false false f g = refl

-- ---- lists
pub each_each : {A B C : Type 0} (f : A → B) (g : B → C) (xs : List A) → each g (each f xs) ≡ each (λ x. g (f x)) xs
each_each f g [] = refl
each_each f g (x ∷ xs) = λ i. g (f x) ∷ each_each f g xs i

pub filter_each : {A B : Type 0} (p : B → Bool) (f : A → B) (xs : List A) → filter p (each f xs) ≡ each f (filter (λ x. p (f x)) xs)
filter_each p f [] = refl
filter_each {A} {B} p f (x ∷ xs) = by (p (f x)) (filter_each p f xs)
  where
    by : (b : Bool) → filter p (each f xs) ≡ each f (filter (λ x. p (f x)) xs) → cond b (f x ∷ filter p (each f xs)) (filter p (each f xs))
        ≡ each f (cond b (x ∷ filter (λ x. p (f x)) xs) (filter (λ x. p (f x)) xs))
    by true e = λ i. f x ∷ e i
    by false e = e

pub filter_same : {A : Type 0} (p q : A → Bool) (xs : List A) → ((x : A) → In x xs → p x ≡ q x) → filter p xs ≡ filter q xs
filter_same p q [] h = refl
filter_same {A} p q (x ∷ xs) h = by (p x) (q x) (h x (inl refl)) (filter_same p q xs (λ y i. h y (inr i)))
  where
    by : (a b : Bool) → a ≡ b → filter p xs ≡ filter q xs → cond a (x ∷ filter p xs) (filter p xs) ≡ cond b (x ∷ filter q xs) (filter q xs)
    by a b e rest = λ i. cond (e i) (x ∷ rest i) (rest i)

pub flat_each : {A B C : Type 0} (f : A → B) (g : B → List C) (xs : List A) → flat_map g (each f xs) ≡ flat_map (λ x. g (f x)) xs
flat_each f g [] = refl
flat_each f g (x ∷ xs) = λ i. g (f x) ++ flat_each f g xs i

-- ---- the keys of a set
pub key_listed : {K : Type 0} (o : Keys K) (t : Set o) (k : K) → has t k ≡ true → In k (keys t)
key_listed {K} o t k h =
    let v = has_some (get t k) h in
    to_each (λ (e : K × Unit {0}). e.0) (k, v.0) t.rows (found_in o t k v.0 v.1)

pub listed_key : {K : Type 0} (o : Keys K) (t : Set o) (k : K) → In k (keys t) → has t k ≡ true
listed_key {K} o t k i =
    let e = in_each (λ (e : K × Unit {0}). e.0) k t.rows i in
    let there : get t e.0.0 ≡ Some e.0.1 = in_found o t e.0.0 e.0.1 e.1 in
    ap is_some (ap (get t) e.2 ∙ there)

-- ---- the image of a set is no larger
pub image_size : {K L : Type 0} (o : Keys K) (o' : Keys L) (g : K → L) (xs : List K) → size (set_of {o = o'} (each g xs)) ≤ size (set_of {o = o} xs)
image_size {K} {L} o o' g xs =
    let few = set_below o' (each g xs) (each g (keys (set_of {o = o} xs))) (λ k i. let x = in_each g k xs i in
    subst (λ (z : L). In z (each g (keys (set_of {o = o} xs)))) (sym x.2) (to_each g x.0 (keys (set_of {o = o} xs)) (listed x.0 x.1))) in
    let size' = size-set_of o' (each g (keys (set_of {o = o} xs))) in
    let a = length-map (keys (set_of {o = o} xs)) g in
    let b = length-map (set_of {o = o} xs).rows (λ (e : K × Unit {0}). e.0) in
    omega arith
  where
    listed : (x : K) → In x xs → In x (keys (set_of {o = o} xs))
    listed x i = key_listed o (set_of {o = o} xs) x (in_set_of o xs x i)
