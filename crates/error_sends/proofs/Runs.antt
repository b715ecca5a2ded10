-- What is said of rows one after another is what stands once all are put into a table.
use Rattle.std.specs.Prelude.{◌≡◌, ◌⊎◌, true, false, cond, List, [], ◌∷◌, ◌++◌, map as each, Option, Some, None, refl}
use Rattle.std.proofs.Common.{T, sym, ap, subst, ◌∙◌, inl, inr, ⊎_elim, Ordering}
use Rattle.std.proofs.lemmas.List.{map-append}
use Rattle.std.specs.FinMap.Entries.{below_all, by_order, is_sorted, put}
use Rattle.std.specs.List.{cons_option, filter_map}
use Rattle.std.specs.Ordering.{eq_by_cmp, is_eq, is_lt, ordering_reverse, ordering_then}
use Rattle.std.specs.declared.cmp.Ordering.TheVariants.{Less, Equal, Greater}
use Rattle.rsvp_base.specs.Keys.{Keys, pairs}
use Rattle.rsvp_base.specs.Members.{In}
use Rattle.rsvp_base.specs.Table.{Table, empty, first, get, put_in, second, values, with_rows}
use Rattle.rsvp_base.proofs.Members.{in_append}
use Rattle.rsvp_base.proofs.Tables.{get-put_in, same_table, tied_self}
use Rattle.error_sends.specs.Runs.{said_before, said_behind, said_from, said_last}

append_assoc : {A : Type 0} (xs : List A) (x : A) (ys : List A) → (xs ++ x ∷ []) ++ ys ≡ xs ++ x ∷ ys
append_assoc [] x ys = refl
append_assoc (z ∷ xs) x ys = ap (λ zs. z ∷ zs) (append_assoc xs x ys)

module _ {K : Type 0} (o : Keys K) where
  abbrev pub IsUpTo : K → K → Type 0
  IsUpTo a b = (o.cmp a b ≡ Less) ⊎ (a ≡ b)

module _ {K X : Type 0} (o : Keys K) where
  abbrev AreBelow : List (K × X) → K → Type 0
  AreBelow es k = (e : K × X) → In e es → o.cmp e.0 k ≡ Less

  -- no key falls, from this one on
  abbrev pub IsFrom : K → List (K × X) → Type 0
  IsFrom k [] = Unit {0}
  IsFrom k (e ∷ es) = IsUpTo o k e.0 × IsFrom e.0 es

  abbrev pub IsUp : List (K × X) → Type 0
  IsUp [] = Unit {0}
  IsUp (e ∷ es) = IsFrom e.0 es

  put_end : (k : K) (v : X) (es : List (K × X)) → AreBelow es k → put o.cmp k v es ≡ es ++ (k, v) ∷ []
  put_end k v [] h = refl
  put_end k v (e ∷ es) h =
      ap (λ r. by_order r ((k, v) ∷ e ∷ es) ((e.0, v) ∷ es) (e ∷ put o.cmp k v es)) (o.total.antisymm k e.0 ∙ ap ordering_reverse (h e (inl refl)))
      ∙ ap (λ zs. e ∷ zs) (put_end k v es (λ x i. h x (inr i)))

  values_end : (m : Table o X) (l : K × X) → AreBelow m.rows l.0 → values (put_in m l.0 l.1) ≡ values m ++ l.1 ∷ []
  values_end m l below = ap (each (λ (e : K × X). e.1)) (put_end l.0 l.1 m.rows below) ∙ map-append (λ (e : K × X). e.1) m.rows (l ∷ [])

  put_over : (m : Table o X) (k : K) (u v : X) → put_in (put_in m k u) k v ≡ put_in m k v
  put_over m k u v = same_table o _ _ (λ q. get-put_in o (put_in m k u) k v q ∙ ap (cond (eq_by_cmp o.cmp q k) (Some v)) (get-put_in o m k u q) ∙ twice (eq_by_cmp o.cmp q k) (get m q)
      ∙ sym (get-put_in o m k v q))
    where
      twice : (b : _) (w : Option X) → cond b (Some v) (cond b (Some u) w) ≡ cond b (Some v) w
      twice true w = refl
      twice false w = refl

  below_more : (m : Table o X) (l : K × X) (k : K) → AreBelow m.rows l.0 → o.cmp l.0 k ≡ Less → AreBelow (put_in m l.0 l.1).rows k
  below_more m l k below less x i =
      ⊎_elim (λ (j : In x m.rows). o.total.trans x.0 l.0 k (below x j) less)
      (λ (j : In x (l ∷ [])). ⊎_elim (λ (is : x ≡ l). ap (λ (z : K × X). o.cmp z.0 k) is ∙ less) (λ (n : ⊥). absurd n) j)
      (in_append x m.rows (l ∷ []) (subst (λ es. In x es) (put_end l.0 l.1 m.rows below) i))

  stands : (m : Table o X) (l : K × X) (es : List (K × X)) → AreBelow m.rows l.0 → IsFrom l.0 es → values (with_rows (put_in m l.0 l.1) es) ≡ values m ++ said_behind o l es
  stands m l [] below up = values_end m l below
  stands m l (e ∷ es) below up =
      ⊎_elim
      (λ (less : o.cmp l.0 e.0 ≡ Less).
      stands (put_in m l.0 l.1) e es (below_more m l e.0 below less) up.1 ∙ ap (λ vs. vs ++ said_behind o e es) (values_end m l below) ∙ append_assoc (values m) l.1 (said_behind o e es)
      ∙ sym (ap (λ r. values m ++ cond (is_eq r) (said_behind o e es) (l.1 ∷ said_behind o e es)) less))
      (λ (same : l.0 ≡ e.0).
      let tie : eq_by_cmp o.cmp l.0 e.0 ≡ true = ap (eq_by_cmp o.cmp l.0) (sym same) ∙ tied_self o l.0 in
      ap (λ (k : K). values (with_rows (put_in (put_in m k l.1) e.0 e.1) es)) same ∙ ap (λ (t : Table o X). values (with_rows t es)) (put_over m e.0 l.1 e.1)
      ∙ stands m e es (λ x i. ap (o.cmp x.0) (sym same) ∙ below x i) up.1 ∙ sym (ap (λ b. values m ++ cond b (said_behind o e es) (l.1 ∷ said_behind o e es)) tie))
      up.0

  -- one for each key, the last of each
  pub all_said : (es : List (K × X)) → IsUp es → values (with_rows (empty {o = o}) es) ≡ said_from o None es
  all_said [] up = refl
  all_said (e ∷ es) up = stands (empty {o = o}) e es (λ x i. absurd i) up

  -- ---- a row more, and the end
  pub one_said : (last : Option (K × X)) (e : K × X) (es : List (K × X)) → said_from o last (e ∷ es) ≡ said_before o last e.0 ++ said_from o (Some e) es
  one_said None e es = refl
  one_said (Some l) e es = by (eq_by_cmp o.cmp l.0 e.0)
    where
      by : (b : _) → cond b (said_behind o e es) (l.1 ∷ said_behind o e es) ≡ cond b [] (l.1 ∷ []) ++ said_behind o e es
      by true = refl
      by false = refl

  pub end_said : (last : Option (K × X)) → said_from o last [] ≡ said_last o last
  end_said None = refl
  end_said (Some l) = refl

-- ---- rows that a table's rows give, each of the first part of its key
module _ {K J A X : Type 0} (o : Keys K) (p : Keys J) (g : (K × J) × A → Option (K × X)) (own : (r : (K × J) × A) (e : K × X) → g r ≡ Some e → e.0 ≡ r.0.0) where
  below_each : (k : K × J) (y : (K × J) × A) (es : List ((K × J) × A)) → T (below_all (pairs o p).cmp k es) → In y es → IsUpTo o k.0 y.0.0
  below_each k y [] h i = absurd i
  below_each k y (e ∷ es) h i = ⊎_elim (λ (s : y ≡ e). subst (λ (z : (K × J) × A). IsUpTo o k.0 z.0.0) (sym s) (by (o.cmp k.0 e.0.0) refl (first _ _ h)))
      (λ (j : In y es). below_each k y es (second _ _ h) j) i
    where
      by : (r : Ordering) → o.cmp k.0 e.0.0 ≡ r → T (is_lt (ordering_then r (p.cmp k.1 e.0.1))) → IsUpTo o k.0 e.0.0
      by Less is t = inl is
      by Equal is t = inr (o.same k.0 e.0.0 is)
      by Greater is t = absurd t

  given_from : (k : K) (es : List ((K × J) × A)) → T (is_sorted (pairs o p).cmp es) → ((y : (K × J) × A) → In y es → IsUpTo o k y.0.0) → IsFrom o k (filter_map g es)
  given_from k [] up above = tt
  given_from k (r ∷ es) up above = by (g r) refl (given_from k es (second _ _ up) (λ y i. above y (inr i))) (λ z a. given_from z es (second _ _ up) a) (λ y i. below_each r.0 y es (first _ _ up) i)
    where
      by : (w : Option (K × X)) → g r ≡ w → IsFrom o k (filter_map g es) → ((z : K) → ((y : (K × J) × A) → In y es → IsUpTo o z y.0.0) → IsFrom o z (filter_map g es))
          → ((y : (K × J) × A) → In y es → IsUpTo o r.0.0 y.0.0)
          → IsFrom o k (cons_option w (filter_map g es))
      by None is rest from low = rest
      by (Some e) is rest from low =
          let at = own r e is in
          (subst (IsUpTo o k) (sym at) (above r (inl refl)), from e.0 (λ y i. subst (λ (z : K). IsUpTo o z y.0.0) (sym at) (low y i)))

  pub given_up : (es : List ((K × J) × A)) → T (is_sorted (pairs o p).cmp es) → IsUp o (filter_map g es)
  given_up [] up = tt
  given_up (r ∷ es) up = by (g r) refl (given_up es (second _ _ up)) (λ z a. given_from z es (second _ _ up) a) (λ y i. below_each r.0 y es (first _ _ up) i)
    where
      by : (w : Option (K × X)) → g r ≡ w → IsUp o (filter_map g es) → ((z : K) → ((y : (K × J) × A) → In y es → IsUpTo o z y.0.0) → IsFrom o z (filter_map g es))
          → ((y : (K × J) × A) → In y es → IsUpTo o r.0.0 y.0.0)
          → IsUp o (cons_option w (filter_map g es))
      by None is rest from low = rest
      by (Some e) is rest from low = from e.0 (λ y i. subst (λ (z : K). IsUpTo o z y.0.0) (sym (own r e is)) (low y i))
