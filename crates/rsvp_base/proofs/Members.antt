-- Members of lists that are put together, changed and filtered.
use Rattle.std.specs.Prelude.{◌≡◌, ◌⊎◌, Bool, true, false, cond, ◌&&◌, ◌||◌, List, [], ◌∷◌, ◌++◌, map as each, refl}
use Rattle.std.proofs.Common.{sym, ap, subst, ◌∙◌, inl, inr, ⊎_elim}
use Rattle.std.specs.List.{filter, flat_map, list_all, list_any}
use Rattle.std.specs.Ordering.{eq_by_cmp}
use Rattle.rsvp_base.specs.Keys.{Keys}
use Rattle.rsvp_base.specs.Members.{In}
use Rattle.rsvp_base.proofs.Tables.{tied_same, tied_self}

-- ---- one list after another
pub in_left : {A : Type 0} (x : A) (xs ys : List A) → In x xs → In x (xs ++ ys)
in_left x [] ys i = absurd i
in_left x (z ∷ xs) ys i = ⊎_elim (λ (e : x ≡ z). inl e) (λ (j : In x xs). inr (in_left x xs ys j)) i

pub in_right : {A : Type 0} (x : A) (xs ys : List A) → In x ys → In x (xs ++ ys)
in_right x [] ys i = i
in_right x (z ∷ xs) ys i = inr (in_right x xs ys i)

pub in_append : {A : Type 0} (x : A) (xs ys : List A) → In x (xs ++ ys) → In x xs ⊎ In x ys
in_append x [] ys i = inr i
in_append x (z ∷ xs) ys i =
    ⊎_elim (λ (e : x ≡ z). inl (inl e))
    (λ (j : In x (xs ++ ys)). ⊎_elim (λ (k : In x xs). inl (inr k)) (λ (k : In x ys). inr k) (in_append x xs ys j)) i

-- ---- what f gives of each
pub in_each : {A B : Type 0} (f : A → B) (y : B) (xs : List A) → In y (each f xs) → (x : A) × In x xs × (y ≡ f x)
in_each f y [] i = absurd i
in_each f y (x ∷ xs) i =
    ⊎_elim (λ (e : y ≡ f x). (x, inl refl, e)) (λ (j : In y (each f xs)). let r = in_each f y xs j in (r.0, inr r.1, r.2)) i

pub to_each : {A B : Type 0} (f : A → B) (x : A) (xs : List A) → In x xs → In (f x) (each f xs)
to_each f x [] i = absurd i
to_each f x (y ∷ xs) i = ⊎_elim (λ (e : x ≡ y). inl (ap f e)) (λ (j : In x xs). inr (to_each f x xs j)) i

pub in_flat_map : {A B : Type 0} (f : A → List B) (y : B) (xs : List A) → In y (flat_map f xs) → (x : A) × In x xs × In y (f x)
in_flat_map f y [] i = absurd i
in_flat_map f y (x ∷ xs) i =
    ⊎_elim (λ (j : In y (f x)). (x, inl refl, j)) (λ (j : In y (flat_map f xs)). let r = in_flat_map f y xs j in (r.0, inr r.1, r.2))
    (in_append y (f x) (flat_map f xs) i)

pub to_flat_map : {A B : Type 0} (f : A → List B) (x : A) (y : B) (xs : List A) → In x xs → In y (f x) → In y (flat_map f xs)
to_flat_map f x y [] i j = absurd i
to_flat_map f x y (z ∷ xs) i j =
    ⊎_elim (λ (e : x ≡ z). in_left y (f z) (flat_map f xs) (subst (λ w. In y (f w)) e j))
    (λ (k : In x xs). in_right y (f z) (flat_map f xs) (to_flat_map f x y xs k j)) i

-- ---- those that pass a test
module _ {A : Type 0} (test : A → Bool) where
  pub in_filter : (x : A) (xs : List A) → In x (filter test xs) → In x xs × (test x ≡ true)
  in_filter x [] i = absurd i
  in_filter x (y ∷ ys) i = by (λ j. in_filter x ys j) (test y) refl i
    where
      by : (In x (filter test ys) → In x ys × (test x ≡ true)) → (b : Bool) → test y ≡ b → In x (cond b (y ∷ filter test ys) (filter test ys)) → In x (y ∷ ys) × (test x ≡ true)
      by rest true t i = ⊎_elim (λ (e : x ≡ y). (inl e, ap test e ∙ t)) (λ (j : In x (filter test ys)). let r = rest j in (inr r.0, r.1)) i
      by rest false t i = let r = rest i in (inr r.0, r.1)

  pub to_filter : (x : A) (xs : List A) → In x xs → test x ≡ true → In x (filter test xs)
  to_filter x [] i h = absurd i
  to_filter x (y ∷ ys) i h = by (λ j. to_filter x ys j h) (test y) refl i
    where
      by : (In x ys → In x (filter test ys)) → (b : Bool) → test y ≡ b → (x ≡ y) ⊎ In x ys → In x (cond b (y ∷ filter test ys) (filter test ys))
      by rest true t i = ⊎_elim (λ (e : x ≡ y). inl e) (λ (j : In x ys). inr (rest j)) i
      by rest false t i = ⊎_elim (λ (e : x ≡ y). let z : true ≡ false = sym h ∙ (ap test e ∙ t) in absurd (cc)) (λ (j : In x ys). rest j) i

  pub all_in : (xs : List A) → list_all test xs ≡ true → (x : A) → In x xs → test x ≡ true
  all_in [] h x i = absurd i
  all_in (y ∷ ys) h x i =
      ⊎_elim (λ (e : x ≡ y). ap test e ∙ left (test y) (list_all test ys) h) (λ (j : In x ys). all_in ys (right (test y) (list_all test ys) h) x j) i
    where
      left : (a b : Bool) → (a && b) ≡ true → a ≡ true
      left true b e = refl
      left false b e = absurd (cc)

      right : (a b : Bool) → (a && b) ≡ true → b ≡ true
      right true b e = e
      right false b e = absurd (cc)

  pub in_all : (xs : List A) → ((x : A) → In x xs → test x ≡ true) → list_all test xs ≡ true
  in_all [] h = refl
  in_all (y ∷ ys) h = ap (λ b. b && list_all test ys) (h y (inl refl)) ∙ in_all ys (λ x i. h x (inr i))

  pub in_any : (xs : List A) → list_any test xs ≡ true → (x : A) × In x xs × (test x ≡ true)
  in_any [] h = absurd (cc)
  in_any (y ∷ ys) h = by (in_any ys) (test y) refl h
    where
      by : (list_any test ys ≡ true → (x : A) × In x ys × (test x ≡ true)) → (b : Bool) → test y ≡ b → (b || list_any test ys) ≡ true → (x : A) × In x (y ∷ ys) × (test x ≡ true)
      by rest true t h = (y, inl refl, t)
      by rest false t h = let r = rest h in (r.0, inr r.1, r.2)

  pub any_in : (x : A) (xs : List A) → In x xs → test x ≡ true → list_any test xs ≡ true
  any_in x [] i h = absurd i
  any_in x (y ∷ ys) i h =
      ⊎_elim (λ (e : x ≡ y). ap (λ b. b || list_any test ys) (ap test (sym e) ∙ h)) (λ (j : In x ys). ap (λ b. test y || b) (any_in x ys j h) ∙ or_true (test y)) i
    where
      or_true : (b : Bool) → (b || true) ≡ true
      or_true true = refl
      or_true false = refl

-- ---- members by the order of keys
module _ {K : Type 0} (o : Keys K) where
  pub in_tied : (k : K) (ks : List K) → list_any (eq_by_cmp o.cmp k) ks ≡ true → In k ks
  in_tied k [] h = absurd (cc)
  in_tied k (q ∷ ks) h = by (λ e. in_tied k ks e) (eq_by_cmp o.cmp k q) refl h
    where
      by : (list_any (eq_by_cmp o.cmp k) ks ≡ true → In k ks) → (b : Bool) → eq_by_cmp o.cmp k q ≡ b → (b || list_any (eq_by_cmp o.cmp k) ks) ≡ true → In k (q ∷ ks)
      by rest true t e = inl (tied_same o k q t)
      by rest false t e = inr (rest e)

  pub tied_in : (k : K) (ks : List K) → In k ks → list_any (eq_by_cmp o.cmp k) ks ≡ true
  tied_in k [] i = absurd i
  tied_in k (q ∷ ks) i =
      ⊎_elim (λ (e : k ≡ q). ap (λ b. b || list_any (eq_by_cmp o.cmp k) ks) (ap (eq_by_cmp o.cmp k) (sym e) ∙ tied_self o k))
      (λ (j : In k ks). ap (λ b. eq_by_cmp o.cmp k q || b) (tied_in k ks j) ∙ or_true (eq_by_cmp o.cmp k q)) i
    where
      or_true : (b : Bool) → (b || true) ≡ true
      or_true true = refl
      or_true false = refl
