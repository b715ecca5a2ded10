-- Sums over the rows of a table, after each change.
use Rattle.std.specs.Prelude.{◌≡◌, ℕ, ◌+◌, ◌≤◌, Bool, true, false, cond, not, List, [], ◌∷◌, Option, Some, None, refl, sum_by}
use Rattle.std.proofs.Common.{sym, ap, ◌∙◌, arith, T}
use Rattle.std.proofs.lemmas.List.Sums.{sum_by-cons}
use Rattle.std.specs.declared.cmp.Ordering.{Ordering}
use Rattle.std.specs.declared.cmp.Ordering.TheVariants.{Less, Equal, Greater}
use Rattle.std.specs.Ordering.{eq_by_cmp, is_eq}
use Rattle.std.specs.FinMap.Entries.{by_order, put, find, where_key, below_all, is_sorted}
use Rattle.std.proofs.lemmas.Bool.{true≢false}
use Rattle.rsvp_base.specs.Keys.{Keys}
use Rattle.rsvp_base.specs.Table.{Table, get, put_in, kept, without, first, second}
use Rattle.rsvp_base.proofs.Tables.{tied_same, tied_self, none_above, either, get-put_in, get-without, same_table}

-- the number of a row that may be there
abbrev pub number_of : {K X : Type 0} → (K × X → ℕ) → K → Option X → ℕ
number_of f k None = 0
number_of f k (Some x) = f (k, x)

-- another key does not tie with this one, either way round
turned_apart : {K : Type 0} (o : Keys K) (k q : K) → eq_by_cmp o.cmp q k ≡ false → eq_by_cmp o.cmp k q ≡ false
turned_apart o k q apart = either (eq_by_cmp o.cmp k q) (λ t. absurd (true≢false (sym (tied_self o k) ∙ ap (λ z. eq_by_cmp o.cmp z k) (tied_same o k q t) ∙ apart))) (λ t. t)

module _ {K X : Type 0} (o : Keys K) (f : K × X → ℕ) where
  sum_put_absent : (k : K) (v : X) (es : List (K × X)) → find o.cmp k es ≡ None → sum_by f (put o.cmp k v es) ≡ sum_by f es + f (k, v)
  sum_put_absent k v [] none = refl
  sum_put_absent k v (e ∷ es) none = at (o.cmp k e.0) none (sum_put_absent k v es)
    where
      at : (r : Ordering) → cond (is_eq r) (Some e.1) (find o.cmp k es) ≡ None → (find o.cmp k es ≡ None → sum_by f (put o.cmp k v es) ≡ sum_by f es + f (k, v))
          → sum_by f (by_order r ((k, v) ∷ e ∷ es) ((e.0, v) ∷ es) (e ∷ put o.cmp k v es)) ≡ sum_by f (e ∷ es) + f (k, v)
      at Less none rest = omega (arith, sum_by-cons f (k, v) (e ∷ es))
      at Equal none rest = cc
      at Greater none rest = omega (arith, rest none, sum_by-cons f e (put o.cmp k v es), sum_by-cons f e es)

  -- the sum is that of the other rows and that of the key
  sum_without_row : (k : K) (es : List (K × X)) → T (is_sorted o.cmp es) → sum_by f es ≡ sum_by f (where_key o.cmp (λ x. not (eq_by_cmp o.cmp k x)) es) + number_of f k (find o.cmp k es)
  sum_without_row k [] h = refl
  sum_without_row k (e ∷ es) h =
      let others = where_key o.cmp (λ x. not (eq_by_cmp o.cmp k x)) es in
      let rest : sum_by f es ≡ sum_by f others + number_of f k (find o.cmp k es) = sum_without_row k es (second (below_all o.cmp e.0 es) (is_sorted o.cmp es) h) in
      elim (eq_by_cmp o.cmp k e.0) as (λ t. eq_by_cmp o.cmp k e.0 ≡ t → sum_by f (e ∷ es) ≡ sum_by f (cond (not t) (e ∷ others) others) + number_of f k (cond t (Some e.1) (find o.cmp k es))) [
        | true ↦ λ t.
            let same : e.0 ≡ k = sym (tied_same o k e.0 t) in
            let none : find o.cmp k es ≡ None = ap (λ z. find o.cmp z es) (sym same) ∙ none_above o e.0 es (first _ _ h) in
            let own : f e ≡ f (k, e.1) = ap (λ z. f (z, e.1)) same in
            omega (arith, rest, ap (number_of f k) none, own, sum_by-cons f e es)
        | false ↦ λ t. omega (arith, rest, sum_by-cons f e es, sum_by-cons f e others)
      ] refl

  pub sum-without : (m : Table o X) (k : K) → sum_by f m.rows ≡ sum_by f (without m k).rows + number_of f k (get m k)
  sum-without m k = sum_without_row k m.rows m.sorted

  gone : (m : Table o X) (k : K) → get (without m k) k ≡ None
  gone m k = get-without o m k k ∙ ap (λ b. cond (not b) (get m k) None) (tied_self o k)

  kept_elsewhere : (m : Table o X) (k q : K) (v : X) → cond (eq_by_cmp o.cmp q k) (Some v) (get m q) ≡ cond (eq_by_cmp o.cmp q k) (Some v) (get (without m k) q)
  kept_elsewhere m k q v =
      elim (eq_by_cmp o.cmp q k) as (λ b. eq_by_cmp o.cmp q k ≡ b → cond b (Some v) (get m q) ≡ cond b (Some v) (get (without m k) q)) [
        | true ↦ λ t. refl
        | false ↦ λ t. sym (get-without o m k q ∙ ap (λ b. cond (not b) (get m q) None) (turned_apart o k q t))
      ] refl

  -- a row put in stands where none is
  put_in_anew : (m : Table o X) (k : K) (v : X) → put_in m k v ≡ put_in (without m k) k v
  put_in_anew m k v = same_table o _ _ (λ q. get-put_in o m k v q ∙ kept_elsewhere m k q v ∙ sym (get-put_in o (without m k) k v q))

  pub sum-put_in : (m : Table o X) (k : K) (v : X) → sum_by f (put_in m k v).rows ≡ sum_by f (without m k).rows + f (k, v)
  sum-put_in m k v = ap (λ (t : Table o X). sum_by f t.rows) (put_in_anew m k v) ∙ sum_put_absent k v (without m k).rows (gone m k)

  -- the rows that pass a test make no more than all
  at_most_all : (p : K → Bool) (es : List (K × X)) → sum_by f (where_key o.cmp p es) ≤ sum_by f es
  at_most_all p [] = omega arith
  at_most_all p (e ∷ es) =
      let rest = at_most_all p es in
      elim (p e.0) as (λ b. sum_by f (cond b (e ∷ where_key o.cmp p es) (where_key o.cmp p es)) ≤ sum_by f (e ∷ es)) [
        | true ↦ omega (arith, sum_by-cons f e es, sum_by-cons f e (where_key o.cmp p es))
        | false ↦ omega (arith, sum_by-cons f e es)
      ]

  pub sum_kept_at_most : (p : K → Bool) (m : Table o X) → sum_by f (kept p m).rows ≤ sum_by f m.rows
  sum_kept_at_most p m = at_most_all p m.rows
