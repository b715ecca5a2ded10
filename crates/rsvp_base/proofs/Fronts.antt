-- Fronts of lists and what stands at a place; members of what a function gives of some, and of the keys of a table.
use Rattle.std.proofs.Common.{◌≡◌, ◌+◌, ℕ, zero, suc, true, is_some, List, [], ◌∷◌, ◌++◌, take, Option, Some, None, ap, ◌∙◌, sym, refl, inl, inr, ⊎_elim}
use Rattle.std.specs.Prelude.{◌⊎◌, slice_get}
use Rattle.std.specs.List.{cons_option, filter_map}
use Rattle.std.proofs.lemmas.List.{take_more}
use Rattle.std.proofs.lemmas.Option.{get_or_from_slice_get, slice_get_within}
use Rattle.rsvp_base.specs.Keys.{Keys}
use Rattle.rsvp_base.specs.Members.{In}
use Rattle.rsvp_base.specs.Table.{Table, get, has, keys}
use Rattle.rsvp_base.proofs.Counts.{in_found, found_in}
use Rattle.rsvp_base.proofs.Members.{in_each, to_each}

-- ---- fronts
pub front_more : {A : Type 0} (xs : List A) (i : ℕ) (x : A) → slice_get xs i ≡ Some x → take (i + 1) xs ≡ take i xs ++ x ∷ []
front_more xs i x at = take_more xs i x (slice_get_within xs i x at) ∙ ap (λ z. take i xs ++ z ∷ []) (get_or_from_slice_get xs i x x at)

-- past the last
pub front_all : {A : Type 0} (xs : List A) (i : ℕ) → slice_get xs i ≡ None → take i xs ≡ xs
front_all [] zero at = refl
front_all [] (suc i) at = refl
front_all (x ∷ xs) zero at = cc
front_all (x ∷ xs) (suc i) at = ap (λ zs. x ∷ zs) (front_all xs i at)

-- ---- members
pub in_front : {A : Type 0} (x : A) (k : ℕ) (xs : List A) → In x (take k xs) → In x xs
in_front x zero xs i = absurd i
in_front x (suc k) [] i = absurd i
in_front x (suc k) (y ∷ ys) i = ⊎_elim (λ (e : x ≡ y). inl e) (λ (j : In x (take k ys)). inr (in_front x k ys j)) i

pub got_in : {A : Type 0} (xs : List A) (i : ℕ) (x : A) → slice_get xs i ≡ Some x → In x xs
got_in [] i x at = absurd (cc)
got_in (y ∷ ys) zero x at = let is : y ≡ x = cc in inl (sym is)
got_in (y ∷ ys) (suc i) x at = inr (got_in ys i x at)

-- ---- what h gives of some
in_cons : {B : Type 0} (w : Option B) (y : B) (ys : List B) → In y (cons_option w ys) → (w ≡ Some y) ⊎ In y ys
in_cons None y ys i = inr i
in_cons (Some z) y ys i = ⊎_elim (λ (e : y ≡ z). inl (ap Some (sym e))) (λ (j : In y ys). inr j) i

to_cons : {B : Type 0} (w : Option B) (y : B) (ys : List B) → (w ≡ Some y) ⊎ In y ys → In y (cons_option w ys)
to_cons None y ys i = ⊎_elim (λ (e : None ≡ Some y). absurd (cc)) (λ (j : In y ys). j) i
to_cons (Some z) y ys i = ⊎_elim (λ (e : Some z ≡ Some y). let same : z ≡ y = cc in inl (sym same)) (λ (j : In y ys). inr j) i

pub in_filter_map : {A B : Type 0} (h : A → Option B) (y : B) (xs : List A) → In y (filter_map h xs) → (x : A) × In x xs × (h x ≡ Some y)
in_filter_map h y [] i = absurd i
in_filter_map h y (x ∷ xs) i =
    ⊎_elim (λ (e : h x ≡ Some y). (x, inl refl, e)) (λ (j : In y (filter_map h xs)). let r = in_filter_map h y xs j in (r.0, inr r.1, r.2)) (in_cons (h x) y (filter_map h xs) i)

pub to_filter_map : {A B : Type 0} (h : A → Option B) (y : B) (x : A) (xs : List A) → In x xs → h x ≡ Some y → In y (filter_map h xs)
to_filter_map h y x [] i e = absurd i
to_filter_map h y x (z ∷ xs) i e =
    to_cons (h z) y (filter_map h xs) (⊎_elim (λ (s : x ≡ z). inl (ap h (sym s) ∙ e)) (λ (j : In x xs). inr (to_filter_map h y x xs j e)) i)

-- ---- the keys of a table
module _ {K X : Type 0} (o : Keys K) where
  pub in_keys : (m : Table o X) (k : K) → In k (keys m) → has m k ≡ true
  in_keys m k i = let r = in_each (λ (e : K × X). e.0) k m.rows i in ap (has m) r.2 ∙ ap is_some (in_found o m r.0.0 r.0.1 r.1)

  pub to_keys : (m : Table o X) (k : K) → has m k ≡ true → In k (keys m)
  to_keys m k h = by (get m k) refl h
    where
      by : (w : Option X) → get m k ≡ w → is_some w ≡ true → In k (keys m)
      by None at e = cc
      by (Some x) at e = to_each (λ (z : K × X). z.0) (k, x) m.rows (found_in o m k x at)
