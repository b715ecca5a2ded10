-- Counting: what lists of lists come to, and sets of lists.
use Rattle.std.proofs.Common.{◌≡◌, ℕ, suc, ◌+◌, ◌<◌, ◌≤◌, List, [], ◌∷◌, length, Bool, true, false, cond, Option, None, Some, inl, inr, ⊎_elim, arith, sym, refl, ap, ◌∙◌}
use Rattle.std.specs.Prelude.{is_some, map as each, sum_by}
use Rattle.std.specs.List.{cons_option, filter, filter_map, flat_map}
use Rattle.std.specs.FinMap.Entries.{where_key}
use Rattle.std.proofs.lemmas.List.{length-append}
use Rattle.std.proofs.lemmas.List.Sums.{sum_by-append, sum_by-cons}
use Rattle.rsvp_base.specs.Keys.{Keys}
use Rattle.rsvp_base.specs.Members.{In}
use Rattle.rsvp_base.specs.Sets.{Set, listed, set_of, with_key}
use Rattle.rsvp_base.specs.Table.{Table, empty, get, has, kept, keys, size, with_rows}
use Rattle.rsvp_base.proofs.Counts.{in_set_of, size_below, sum_below}
use Rattle.rsvp_base.proofs.Members.{in_filter}
use Rattle.rsvp_base.proofs.SetLaws.{and_both, has-kept}
use Rattle.rsvp_base.proofs.Sums.{sum-put_in, sum-without}
use Rattle.laws_bounds.proofs.Lists.{none_in}
use Rattle.laws_network.proofs.Known.{has_some}
use Rattle.tree_model.specs.Valid.{AreRising}

-- ---- sums
pub sum_at_most : {A : Type 0} (v w : A → ℕ) (xs : List A) → ((x : A) → In x xs → v x ≤ w x) → sum_by v xs ≤ sum_by w xs
sum_at_most v w [] h = omega arith
sum_at_most v w (x ∷ xs) h =
    let rest = sum_at_most v w xs (λ y i. h y (inr i)) in
    let here = h x (inl refl) in
    omega (arith, rest, here, sum_by-cons v x xs, sum_by-cons w x xs)

pub sum_each : {A B : Type 0} (w : B → ℕ) (f : A → B) (xs : List A) → sum_by w (each f xs) ≡ sum_by (λ x. w (f x)) xs
sum_each w f [] = refl
sum_each w f (x ∷ xs) = let rest = sum_each w f xs in omega (arith, rest, sum_by-cons w (f x) (each f xs), sum_by-cons (λ y. w (f y)) x xs)

pub sum_flat : {A B : Type 0} (w : B → ℕ) (f : A → List B) (xs : List A) → sum_by w (flat_map f xs) ≡ sum_by (λ x. sum_by w (f x)) xs
sum_flat w f [] = refl
sum_flat w f (x ∷ xs) =
    let rest = sum_flat w f xs in omega (arith, rest, sum_by-append w (f x) (flat_map f xs), sum_by-cons (λ y. sum_by w (f y)) x xs)

-- ---- what lists come to
-- what a function gives of those that another picks comes to no more than this number of each
pub length_picked : {A B C : Type 0} (h : A → Option B) (g : B → List C) (w : A → ℕ) (xs : List A) → ((x : A) (y : B) → In x xs → h x ≡ Some y → length (g y) ≤ w x)
    → length (flat_map g (filter_map h xs)) ≤ sum_by w xs
length_picked h g w [] few = omega arith
length_picked {A} {B} h g w (x ∷ xs) few = by (h x) refl (length_picked h g w xs (λ y z i. few y z (inr i)))
  where
    by : (o : Option B) → h x ≡ o → length (flat_map g (filter_map h xs)) ≤ sum_by w xs → length (flat_map g (cons_option o (filter_map h xs))) ≤ sum_by w (x ∷ xs)
    by None is rest = omega (arith, rest, sum_by-cons w x xs)
    by (Some y) is rest =
        let here = few x y (inl refl) is in
        omega (arith, rest, here, sum_by-cons w x xs, length-append (g y) (flat_map g (filter_map h xs)))

-- where each gives one thing at most
pub length_ones : {B C : Type 0} (g : B → List C) (ys : List B) → ((y : B) → In y ys → length (g y) ≤ 1) → length (flat_map g ys) ≤ length ys
length_ones g [] few = omega arith
length_ones g (y ∷ ys) few =
    let rest = length_ones g ys (λ z i. few z (inr i)) in
    let here = few y (inl refl) in
    omega (arith, rest, here, length-append (g y) (flat_map g ys))

pub length_filter : {A : Type 0} (t : A → Bool) (xs : List A) → length (filter t xs) ≤ length xs
length_filter t [] = omega arith
length_filter {A} t (x ∷ xs) = by (t x) (length_filter t xs)
  where
    by : (b : Bool) → length (filter t xs) ≤ length xs → length (cond b (x ∷ filter t xs) (filter t xs)) ≤ suc (length xs)
    by true rest = omega (arith, rest)
    by false rest = omega (arith, rest)

-- ---- sets
module _ {K : Type 0} (o : Keys K) where
  with_rows_sum : (w : K → ℕ) (ks : List K) (m : Set o) → sum_by (λ (e : K × Unit {0}). w e.0) (with_rows m (listed ks)).rows ≤ sum_by (λ (e : K × Unit {0}). w e.0) m.rows + sum_by w ks
  with_rows_sum w [] m = omega arith
  with_rows_sum w (k ∷ ks) m =
      let rest = with_rows_sum w ks (with_key m k) in
      let put = sum-put_in o (λ (e : K × Unit {0}). w e.0) m k tt in
      let less = sum-without o (λ (e : K × Unit {0}). w e.0) m k in
      omega (arith, rest, put, less, sum_by-cons w k ks)

  -- the sum over a list's set is no more than that over the list
  pub sum-set_of : (w : K → ℕ) (ks : List K) → sum_by (λ (e : K × Unit {0}). w e.0) (set_of {o = o} ks).rows ≤ sum_by w ks
  sum-set_of w ks =
      let all : sum_by (λ (e : K × Unit {0}). w e.0) (set_of {o = o} ks).rows ≤ 0 + sum_by w ks = with_rows_sum w ks empty in
      omega (arith, all)

  -- the sum over the keys of a table is no more than that over a list that has them all
  pub sum_keys : {X : Type 0} (w : K → ℕ) (m : Table o X) (ks : List K) → ((k : K) (x : X) → get m k ≡ Some x → In k ks) → sum_by (λ (e : K × X). w e.0) m.rows ≤ sum_by w ks
  sum_keys {X} w m ks there =
      let below = sum_below o (λ (e : K × X). w e.0) (λ (e : K × Unit {0}). w e.0) m (set_of {o = o} ks)
      (λ k x at. let r = has_some (get (set_of {o = o} ks) k) (in_set_of o ks k (there k x at)) in (r.0, r.1, omega arith)) in
      omega (arith, below, sum-set_of w ks)

  picked_rows : {B : Type 0} (h : K → Option B) (es : List (K × Unit {0})) → length (filter_map h (each (λ (e : K × Unit {0}). e.0) es)) ≡ length (where_key o.cmp (λ k. is_some (h k)) es)
  picked_rows h [] = refl
  picked_rows {B} h (e ∷ es) = by (h e.0) (picked_rows h es)
    where
      by : (w : Option B) → length (filter_map h (each (λ (e : K × Unit {0}). e.0) es)) ≡ length (where_key o.cmp (λ k. is_some (h k)) es)
          → length (cons_option w (filter_map h (each (λ (e : K × Unit {0}). e.0) es)))
          ≡ length (cond (is_some w) (e ∷ where_key o.cmp (λ k. is_some (h k)) es) (where_key o.cmp (λ k. is_some (h k)) es))
      by None rest = rest
      by (Some y) rest = ap suc rest

  -- those that are picked of a set are no more than another set that has them has members
  pub length_keys : {B : Type 0} (h : K → Option B) (s t : Set o) → ((k : K) (y : B) → has s k ≡ true → h k ≡ Some y → has t k ≡ true) → length (filter_map h (keys s)) ≤ size t
  length_keys h s t there =
      let below = size_below o (kept (λ k. is_some (h k)) s) t
      (λ k e. let r = and_both (has s k) (is_some (h k)) (sym (has-kept o (λ k. is_some (h k)) s k) ∙ e) in let y = has_some (h k) r.1 in there k y.0 r.0 y.1) in
      omega (arith, below, picked_rows h s.rows)

-- ---- of numbers that rise, one passes a test that no two pass
later : (e : ℕ) (es : List ℕ) → AreRising (e ∷ es) → (x : ℕ) → In x es → e < x
later e [] rise x i = absurd i
later e (f ∷ es) rise x i = ⊎_elim (λ (is : x ≡ f). let lt = rise.0 in omega (arith, lt, is)) (λ (j : In x es). let lt = rise.0 in let more = later f es rise.1 x j in omega (arith, lt, more)) i

rest_rises : (e : ℕ) (es : List ℕ) → AreRising (e ∷ es) → AreRising es
rest_rises e [] rise = tt
rest_rises e (f ∷ es) rise = rise.1

pub one_passes : (t : ℕ → Bool) (es : List ℕ) → AreRising es → ((a b : ℕ) → In a es → In b es → t a ≡ true → t b ≡ true → a ≡ b) → length (filter t es) ≤ 1
one_passes t [] rise one = omega arith
one_passes t (e ∷ es) rise one = by (t e) refl (one_passes t es (rest_rises e es rise) (λ a b i j p q. one a b (inr i) (inr j) p q))
  where
    by : (b : Bool) → t e ≡ b → length (filter t es) ≤ 1 → length (cond b (e ∷ filter t es) (filter t es)) ≤ 1
    by false is rest = rest
    by true is rest =
        let none : filter t es ≡ [] =
        none_in (filter t es) (λ x i. let r = in_filter t x es i in let same = one e x (inl refl) (inr r.0) is r.1 in let lt = later e es rise x r.0 in omega (arith, same, lt)) in
        omega (arith, ap length none)
