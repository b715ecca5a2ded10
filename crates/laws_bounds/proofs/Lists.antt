-- Members of lists that are cut, numbered, ordered, or put into tables.
use Rattle.std.specs.Prelude.{◌≡◌, ℕ, suc, ◌+◌, ◌≤◌, ◌<◌, ◌⊎◌, ◌≢◌, ◌==◌, eqb, Bool, true, false, cond, List, [], ◌∷◌, length, is_some, Option, Some, None, refl}
use Rattle.std.proofs.Common.{zero, sym, ap, subst, ◌∙◌, arith, inl, inr, ⊎_elim}
use Rattle.std.proofs.lemmas.Bool.{ne_eqb}
use Rattle.std.proofs.lemmas.Bool.Decides.{eqb_tells}
use Rattle.std.specs.List.{range_with_len}
use Rattle.std.specs.Ordering.{is_lt}
use Rattle.router_rules.specs.RsvpBase.declared.session.Sender.{Sender}
use Rattle.router_rules.specs.RsvpBase.Keys.{Keys}
use Rattle.router_rules.specs.RsvpBase.Members.{In}
use Rattle.router_rules.specs.RsvpBase.Orders.{Names, senders}
use Rattle.router_rules.specs.RsvpBase.Sets.{is_none}
use Rattle.router_rules.specs.RsvpBase.Table.{Table, get, has, put_in, values, with_rows}
use Rattle.router_rules.proofs.RsvpBase.Counts.{found_in, in_found}
use Rattle.router_rules.proofs.RsvpBase.Members.{in_each, to_each}
use Rattle.router_rules.proofs.RsvpBase.Tables.{got_put_in}
use Rattle.router_rules.specs.Inputs.{put_in_order, in_order}

-- ---- options
pub some_is : {X : Type 0} (w : Option X) → is_some w ≡ true → (x : X) × (w ≡ Some x)
some_is None e = cc
some_is (Some x) e = (x, refl)

pub none_is : {X : Type 0} (w : Option X) → is_some w ≡ false → w ≡ None
none_is None e = refl
none_is (Some x) e = cc

pub some_same : {X : Type 0} (x y : X) → Some x ≡ Some y → x ≡ y
some_same x y e = cc

-- what a test lets through
pub passed : {X : Type 0} (b : Bool) (v : Option X) (x : X) → cond b v None ≡ Some x → (b ≡ true) × (v ≡ Some x)
passed true v x e = (refl, e)
passed false v x e = cc

-- ---- numbers in a row
pub in_range : (a n i : ℕ) → In i (range_with_len a n) → (a ≤ i) × (i < a + n)
in_range a zero i h = absurd h
in_range a (suc n) i h =
    ⊎_elim (λ (e : i ≡ a). (omega (arith, e), omega (arith, e)))
    (λ (j : In i (range_with_len (a + 1) n)). let r = in_range (a + 1) n i j in let lo = r.0 in let hi = r.1 in (omega (arith, lo), omega (arith, hi))) h

pub to_range : (a n i : ℕ) → a ≤ i → i < a + n → In i (range_with_len a n)
to_range a zero i lo hi = absurd (omega (arith, lo, hi))
to_range a (suc n) i lo hi =
    ⊎_elim (λ (t : (eqb i a ≡ true) × (i ≡ a)). inl t.1)
    (λ (t : (eqb i a ≡ false) × (i ≢ a)). let apart = t.1 in inr (to_range (a + 1) n i (omega (arith, lo, apart)) (omega (arith, hi)))) (eqb_tells i a)

-- ---- rows put into a table one after another
module _ {K X : Type 0} (o : Keys K) where
  pub got_with_rows : (es : List (K × X)) (m : Table o X) (k : K) (x : X) → get (with_rows m es) k ≡ Some x → (get m k ≡ Some x) ⊎ In (k, x) es
  got_with_rows [] m k x h = inl h
  got_with_rows (e ∷ es) m k x h =
      ⊎_elim
      (λ (old : get (put_in m e.0 e.1) k ≡ Some x).
      ⊎_elim (λ (new : (k ≡ e.0) × (x ≡ e.1)). inr (inl (λ i. (new.0 i, new.1 i)))) (λ (older : get m k ≡ Some x). inl older) (got_put_in o m e.0 e.1 k x old))
      (λ (later : In (k, x) es). inr (inr later))
      (got_with_rows es (put_in m e.0 e.1) k x h)

  -- a value of the table stands under a key, and the other way round
  pub in_values : (m : Table o X) (x : X) → In x (values m) → (k : K) × (get m k ≡ Some x)
  in_values m x i = let r = in_each (λ (e : K × X). e.1) x m.rows i in (r.0.0, in_found o m r.0.0 x (subst (λ (z : X). In (r.0.0, z) m.rows) (sym r.2) r.1))

  pub to_values : (m : Table o X) (k : K) (x : X) → get m k ≡ Some x → In x (values m)
  to_values m k x e = to_each (λ (z : K × X). z.1) (k, x) m.rows (found_in o m k x e)

-- ---- lists in order have the same members
module _ {X K : Type 0} (o : Keys K) (key : X → K) where
  pub in_put : (y x : X) (xs : List X) → In y (put_in_order o key x xs) → (y ≡ x) ⊎ In y xs
  in_put y x [] i = i
  in_put y x (z ∷ zs) i = by (is_lt (o.cmp (key z) (key x))) (in_put y x zs) i
    where
      by : (b : Bool) → (In y (put_in_order o key x zs) → (y ≡ x) ⊎ In y zs) → In y (cond b (z ∷ put_in_order o key x zs) (x ∷ z ∷ zs)) → (y ≡ x) ⊎ In y (z ∷ zs)
      by true rest i = ⊎_elim (λ (e : y ≡ z). inr (inl e)) (λ (j : In y (put_in_order o key x zs)). ⊎_elim (λ (e : y ≡ x). inl e) (λ (l : In y zs). inr (inr l)) (rest j)) i
      by false rest i = i

  to_put : (y x : X) (xs : List X) → (y ≡ x) ⊎ In y xs → In y (put_in_order o key x xs)
  to_put y x [] i = i
  to_put y x (z ∷ zs) i = by (is_lt (o.cmp (key z) (key x))) (to_put y x zs) i
    where
      by : (b : Bool) → ((y ≡ x) ⊎ In y zs → In y (put_in_order o key x zs)) → (y ≡ x) ⊎ In y (z ∷ zs) → In y (cond b (z ∷ put_in_order o key x zs) (x ∷ z ∷ zs))
      by true rest i = ⊎_elim (λ (e : y ≡ x). inr (rest (inl e))) (λ (j : In y (z ∷ zs)). ⊎_elim (λ (e : y ≡ z). inl e) (λ (l : In y zs). inr (rest (inr l))) j) i
      by false rest i = i

  pub in_ordered : (y : X) (xs : List X) → In y (in_order o key xs) → In y xs
  in_ordered y [] i = i
  in_ordered y (x ∷ xs) i = ⊎_elim (λ (e : y ≡ x). inl e) (λ (j : In y (in_order o key xs)). inr (in_ordered y xs j)) (in_put y x (in_order o key xs) i)

  pub to_ordered : (y : X) (xs : List X) → In y xs → In y (in_order o key xs)
  to_ordered y [] i = i
  to_ordered y (x ∷ xs) i = to_put y x (in_order o key xs) (⊎_elim (λ (e : y ≡ x). inl e) (λ (j : In y xs). inr (to_ordered y xs j)) i)

pub none_in : {A : Type 0} (xs : List A) → ((x : A) → In x xs → ⊥) → xs ≡ []
none_in [] none = refl
none_in (x ∷ xs) none = absurd (none x (inl refl))

-- ---- sets of names
-- a set that is not without has a member
pub one_name : (s : Names) → is_none s ≡ false → (x : Sender) × (has s x ≡ true)
one_name s e = by s.rows refl
  where
    by : (es : List (Sender × Unit {0})) → s.rows ≡ es → (x : Sender) × (has s x ≡ true)
    by [] is = let z : true ≡ false = sym (ap (λ es. length es == 0) is) ∙ e in absurd (cc)
    by (r ∷ es) is = (r.0, ap is_some (in_found senders s r.0 r.1 (subst (λ es. In (r.0, r.1) es) (sym is) (inl refl))))

-- a set with a member is not without
pub has_some : (s : Names) (x : Sender) → has s x ≡ true → is_none s ≡ false
has_some s x e = by s.rows (some_there (get s x) refl e)
  where
    some_there : (w : Option (Unit {0})) → get s x ≡ w → is_some w ≡ true → In (x, tt) s.rows
    some_there None g e = absurd (cc)
    some_there (Some u) g e = found_in senders s x tt g

    by : (es : List (Sender × Unit {0})) → In (x, tt) es → (length es == 0) ≡ false
    by [] i = absurd i
    by (r ∷ es) i = ne_eqb (length (r ∷ es)) 0 (λ n. omega (arith, n))
