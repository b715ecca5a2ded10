-- Rows as members, and sums and sizes: fewer keys with smaller values, no larger sum.
use Rattle.std.specs.Prelude.{◌≡◌, ℕ, ◌+◌, ◌≤◌, Bool, true, false, cond, not, Some, None, List, [], ◌∷◌, length, is_some, sum_by, refl}
use Rattle.std.proofs.Common.{sym, ap, subst, ◌∙◌, arith, T, inl, inr, ⊎_elim}
use Rattle.std.proofs.lemmas.List.{length-map}
use Rattle.std.proofs.lemmas.List.Sums.{sum_by-cons}
use Rattle.std.specs.List.{list_any}
use Rattle.std.specs.Ordering.{eq_by_cmp}
use Rattle.std.specs.FinMap.Entries.{find, where_key, below_all, is_sorted}
use Rattle.rsvp_base.specs.Keys.{Keys}
use Rattle.rsvp_base.specs.Table.{Table, get, has, size, empty, with_rows, without, first, second}
use Rattle.rsvp_base.specs.Sets.{Set, listed, with_key, set_of}
use Rattle.rsvp_base.specs.Members.{In}
use Rattle.rsvp_base.proofs.Tables.{either, tied_same, tied_self, none_above, get-without, less_not_equal}
use Rattle.rsvp_base.proofs.SetLaws.{has-with_rows, size-with_key}
use Rattle.rsvp_base.proofs.Lists.{keys-listed}
use Rattle.rsvp_base.proofs.Members.{in_tied, tied_in}

-- ---- rows as members
module _ {K X : Type 0} (o : Keys K) where
  in_rows : (k : K) (v : X) (es : List (K × X)) → T (is_sorted o.cmp es) → In (k, v) es → find o.cmp k es ≡ Some v
  in_rows k v [] h i = absurd i
  in_rows k v (e ∷ es) h i =
      ⊎_elim (λ (q : (k, v) ≡ e). subst (λ (z : K × X). find o.cmp k (z ∷ es) ≡ Some v) q (ap (λ b. cond b (Some v) (find o.cmp k es)) (tied_self o k)))
      (λ (j : In (k, v) es).
      let rest : find o.cmp k es ≡ Some v = in_rows k v es (second (below_all o.cmp e.0 es) (is_sorted o.cmp es) h) j in
      either (eq_by_cmp o.cmp k e.0)
      (λ t. let none : find o.cmp k es ≡ None = ap (λ q. find o.cmp q es) (tied_same o k e.0 t) ∙ none_above o e.0 es (first (below_all o.cmp e.0 es) (is_sorted o.cmp es) h) in
      let z : Some v ≡ None = sym rest ∙ none in absurd (cc))
      (λ t. ap (λ b. cond b (Some e.1) (find o.cmp k es)) t ∙ rest)) i

  -- a row is what stands under its key
  pub in_found : (m : Table o X) (k : K) (v : X) → In (k, v) m.rows → get m k ≡ Some v
  in_found m k v i = in_rows k v m.rows m.sorted i

  found_rows : (k : K) (v : X) (es : List (K × X)) → find o.cmp k es ≡ Some v → In (k, v) es
  found_rows k v [] e = absurd (cc)
  found_rows k v (f ∷ es) e = by (found_rows k v es) (eq_by_cmp o.cmp k f.0) refl e
    where
      by : (find o.cmp k es ≡ Some v → In (k, v) es) → (b : Bool) → eq_by_cmp o.cmp k f.0 ≡ b → cond b (Some f.1) (find o.cmp k es) ≡ Some v → In (k, v) (f ∷ es)
      by rest true t e = let q : k ≡ f.0 = tied_same o k f.0 t in let r : f.1 ≡ v = cc in inl (λ i. (q i, sym r i))
      by rest false t e = inr (rest e)

  pub found_in : (m : Table o X) (k : K) (v : X) → get m k ≡ Some v → In (k, v) m.rows
  found_in m k v e = found_rows k v m.rows e

  -- ---- sums without one row
  rest_above : (k : K) (es : List (K × X)) → T (below_all o.cmp k es) → where_key o.cmp (λ x. not (eq_by_cmp o.cmp k x)) es ≡ es
  rest_above k [] h = refl
  rest_above k (e ∷ es) h =
      ap (λ b. cond (not b) (e ∷ where_key o.cmp (λ x. not (eq_by_cmp o.cmp k x)) es) (where_key o.cmp (λ x. not (eq_by_cmp o.cmp k x)) es)) (less_not_equal _ (first _ _ h))
      ∙ ap (λ r. e ∷ r) (rest_above k es (second _ _ h))

  sum_rows-without : (w : K × X → ℕ) (k : K) (y : X) (es : List (K × X)) → T (is_sorted o.cmp es) → find o.cmp k es ≡ Some y
      → sum_by w es ≡ w (k, y) + sum_by w (where_key o.cmp (λ x. not (eq_by_cmp o.cmp k x)) es)
  sum_rows-without w k y [] h e = absurd (cc)
  sum_rows-without w k y (z ∷ es) h e =
      either (eq_by_cmp o.cmp k z.0)
      (λ t.
      let same : k ≡ z.0 = tied_same o k z.0 t in
      let g : Some z.1 ≡ Some y = sym (ap (λ b. cond b (Some z.1) (find o.cmp k es)) t) ∙ e in
      let v : z.1 ≡ y = cc in
      let above : T (below_all o.cmp k es) = subst (λ (q : K). T (below_all o.cmp q es)) (sym same) (first _ _ h) in
      let drop : where_key o.cmp (λ x. not (eq_by_cmp o.cmp k x)) (z ∷ es) ≡ es =
      ap (λ b. cond (not b) (z ∷ where_key o.cmp (λ x. not (eq_by_cmp o.cmp k x)) es) (where_key o.cmp (λ x. not (eq_by_cmp o.cmp k x)) es)) t ∙ rest_above k es above in
      sum_by-cons w z es ∙ (λ i. w (sym same i, v i) + sum_by w (sym drop i)))
      (λ t.
      let g : find o.cmp k es ≡ Some y = sym (ap (λ b. cond b (Some z.1) (find o.cmp k es)) t) ∙ e in
      let keep : where_key o.cmp (λ x. not (eq_by_cmp o.cmp k x)) (z ∷ es) ≡ z ∷ where_key o.cmp (λ x. not (eq_by_cmp o.cmp k x)) es =
      ap (λ b. cond (not b) (z ∷ where_key o.cmp (λ x. not (eq_by_cmp o.cmp k x)) es) (where_key o.cmp (λ x. not (eq_by_cmp o.cmp k x)) es)) t in
      let rest : sum_by w es ≡ w (k, y) + sum_by w (where_key o.cmp (λ x. not (eq_by_cmp o.cmp k x)) es) = sum_rows-without w k y es (second (below_all o.cmp z.0 es) (is_sorted o.cmp es) h) g in
      let all = sum_by-cons w z es in
      let others = sum_by-cons w z (where_key o.cmp (λ x. not (eq_by_cmp o.cmp k x)) es) in
      rw keep (omega (arith, rest, all, others)))

  pub sum-without : (w : K × X → ℕ) (m : Table o X) (k : K) (y : X) → get m k ≡ Some y → sum_by w m.rows ≡ w (k, y) + sum_by w (without m k).rows
  sum-without w m k y e = sum_rows-without w k y m.rows m.sorted e

-- ---- fewer keys, smaller values
module _ {K X Y : Type 0} (o : Keys K) where
  sum_rows : (w : K × X → ℕ) (v : K × Y → ℕ) (es : List (K × X)) (t : Table o Y) → T (is_sorted o.cmp es)
      → ((k : K) (x : X) → find o.cmp k es ≡ Some x → (y : Y) × (get t k ≡ Some y) × (w (k, x) ≤ v (k, y))) → sum_by w es ≤ sum_by v t.rows
  sum_rows w v [] t h u = omega arith
  sum_rows w v (e ∷ es) t h u =
      let here : find o.cmp e.0 (e ∷ es) ≡ Some e.1 = ap (λ b. cond b (Some e.1) (find o.cmp e.0 es)) (tied_self o e.0) in
      let a = u e.0 e.1 here in
      let s : sum_by v t.rows ≡ v (e.0, a.0) + sum_by v (without t e.0).rows = sum-without o v t e.0 a.0 a.1 in
      let rest : sum_by w es ≤ sum_by v (without t e.0).rows = sum_rows w v es (without t e.0) (second (below_all o.cmp e.0 es) (is_sorted o.cmp es) h) (λ k x g. lower k x g) in
      let all = sum_by-cons w e es in
      omega (arith, s, rest, all, a.2)
    where
      apart : (k : K) (x : X) → find o.cmp k es ≡ Some x → eq_by_cmp o.cmp k e.0 ≡ false
      apart k x g =
          either (eq_by_cmp o.cmp k e.0)
          (λ t. let none : find o.cmp k es ≡ None = ap (λ q. find o.cmp q es) (tied_same o k e.0 t) ∙ none_above o e.0 es (first _ _ h) in let z : None ≡ Some x = sym none ∙ g in absurd (cc))
          (λ t. t)

      turned : (k : K) → eq_by_cmp o.cmp k e.0 ≡ false → eq_by_cmp o.cmp e.0 k ≡ false
      turned k d =
          either (eq_by_cmp o.cmp e.0 k)
          (λ t. let z : true ≡ false = sym (tied_self o k) ∙ (ap (λ q. eq_by_cmp o.cmp k q) (sym (tied_same o e.0 k t)) ∙ d) in absurd (cc))
          (λ t. t)

      lower : (k : K) (x : X) → find o.cmp k es ≡ Some x → (y : Y) × (get (without t e.0) k ≡ Some y) × (w (k, x) ≤ v (k, y))
      lower k x g =
          let d = apart k x g in
          let r = u k x (ap (λ b. cond b (Some e.1) (find o.cmp k es)) d ∙ g) in
          (r.0, get-without o t e.0 k ∙ ap (λ b. cond (not b) (get t k) None) (turned k d) ∙ r.1, r.2)

  -- where each row of the one table has a row of the other under its key with no smaller value, the sum is no larger
  pub sum_below : (w : K × X → ℕ) (v : K × Y → ℕ) (s : Table o X) (t : Table o Y) → ((k : K) (x : X) → get s k ≡ Some x → (y : Y) × (get t k ≡ Some y) × (w (k, x) ≤ v (k, y)))
      → sum_by w s.rows ≤ sum_by v t.rows
  sum_below w v s t u = sum_rows w v s.rows t s.sorted u

ones : {A : Type 0} (xs : List A) → sum_by (λ (x : A). 1) xs ≡ length xs
ones [] = refl
ones (x ∷ xs) = let rest = ones xs in let all = sum_by-cons (λ z. 1) x xs in omega (arith, rest, all)

-- fewer keys, no larger size
pub size_below : {K X Y : Type 0} (o : Keys K) (s : Table o X) (t : Table o Y) → ((k : K) → has s k ≡ true → has t k ≡ true) → size s ≤ size t
size_below {K} {X} {Y} o s t h =
    let b = sum_below o (λ e. 1) (λ e. 1) s t (λ k x e. let r = there k (h k (ap is_some e)) in (r.0, r.1, omega arith)) in
    omega (arith, b, ones s.rows, ones t.rows)
  where
    there : (k : K) → has t k ≡ true → (y : Y) × (get t k ≡ Some y)
    there k e = elim (get t k) as (λ w. is_some w ≡ true → (y : Y) × (w ≡ Some y)) [ Some y ↦ λ _. (y, refl) | None ↦ λ e. absurd (cc) ] e

-- ---- sets of lists
module _ {K : Type 0} (o : Keys K) where
  pub has-set_of : (ks : List K) (q : K) → has (set_of {o = o} ks) q ≡ list_any (eq_by_cmp o.cmp q) ks
  has-set_of ks q = has-with_rows o (listed ks) empty q ∙ ap (list_any (eq_by_cmp o.cmp q)) (keys-listed ks)

  pub in_set_of : (ks : List K) (q : K) → In q ks → has (set_of {o = o} ks) q ≡ true
  in_set_of ks q i = has-set_of ks q ∙ tied_in o q ks i

  pub set_of_in : (ks : List K) (q : K) → has (set_of {o = o} ks) q ≡ true → In q ks
  set_of_in ks q e = in_tied o q ks (sym (has-set_of ks q) ∙ e)

  -- members among members, no more of them
  pub set_below : (xs ys : List K) → ((k : K) → In k xs → In k ys) → size (set_of {o = o} xs) ≤ size (set_of {o = o} ys)
  set_below xs ys h = size_below o (set_of {o = o} xs) (set_of {o = o} ys) (λ k e. in_set_of ys k (h k (set_of_in xs k e)))

  with_rows_size : (es : List (K × Unit {0})) (m : Set o) → size (with_rows m es) ≤ size m + length es
  with_rows_size [] m = omega arith
  with_rows_size (e ∷ es) m =
      let rest = with_rows_size es (with_key m e.0) in
      let one = size-with_key o m e.0 in
      either (has m e.0)
      (λ t. let same : size (with_key m e.0) ≡ size m = one ∙ ap (λ b. cond b (size m) (size m + 1)) t in omega (arith, rest, same))
      (λ t. let more : size (with_key m e.0) ≡ size m + 1 = one ∙ ap (λ b. cond b (size m) (size m + 1)) t in omega (arith, rest, more))

  -- a list's set is no larger than the list
  pub size-set_of : (ks : List K) → size (set_of {o = o} ks) ≤ length ks
  size-set_of ks = let all = with_rows_size (listed ks) empty in let same : length (listed ks) ≡ length ks = length-map ks (λ k. (k, tt)) in omega (arith, all, same)
