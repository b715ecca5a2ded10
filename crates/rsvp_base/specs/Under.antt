-- The rows of a table under one first part of their keys.
use Rattle.std.specs.Prelude.{◌≡◌, true, false, cond, List, [], ◌∷◌, map as each, refl}
use Rattle.std.proofs.Common.{sym, subst, ◌∙◌, T}
use Rattle.std.specs.declared.cmp.Ordering.{Ordering}
use Rattle.std.specs.declared.cmp.Ordering.TheVariants.{Less, Equal, Greater}
use Rattle.std.specs.Ordering.{eq_by_cmp, is_eq, is_lt, ordering_then}
use Rattle.std.specs.FinMap.Entries.{where_key, below_all, is_sorted}
use Rattle.rsvp_base.specs.Keys.{Keys, pairs}
use Rattle.rsvp_base.specs.Table.{Table, both, first, second}

equal : (r : Ordering) → is_eq r ≡ true → r ≡ Equal
equal Less e = cc
equal Equal e = refl
equal Greater e = cc

-- of two keys with the same first part, the rest decides
rest_below : {A B : Type 0} (o : Keys A) (p : Keys B) (a : A) (x y : A × B) → eq_by_cmp o.cmp a x.0 ≡ true → eq_by_cmp o.cmp a y.0 ≡ true → T (is_lt ((pairs o p).cmp x y)) → T (is_lt (p.cmp x.1 y.1))
rest_below o p a x y s t lt =
    let tie : o.cmp x.0 y.0 ≡ Equal = sym (o.total.congr a x.0 y.0 (equal _ s)) ∙ equal _ t in
    subst (λ r. T (is_lt (ordering_then r (p.cmp x.1 y.1)))) tie lt

module _ {A B X : Type 0} (o : Keys A) (p : Keys B) where
  -- the rows whose keys begin with this, by the rest of their keys
  abbrev pub rows_under : A → List ((A × B) × X) → List (B × X)
  rows_under a es = each (λ e. (e.0.1, e.1)) (where_key (pairs o p).cmp (λ k. eq_by_cmp o.cmp a k.0) es)

  below_under : (a : A) (x : A × B) (es : List ((A × B) × X)) → eq_by_cmp o.cmp a x.0 ≡ true → T (below_all (pairs o p).cmp x es) → T (below_all p.cmp x.1 (rows_under a es))
  below_under a x [] s h = tt
  below_under a x (e ∷ es) s h =
      let rest = below_under a x es s (second _ _ h) in
      elim (eq_by_cmp o.cmp a e.0.0) as (λ b. eq_by_cmp o.cmp a e.0.0 ≡ b
      → T (below_all p.cmp x.1 (each
      (λ e. (e.0.1, e.1)) (cond b (e ∷ where_key (pairs o p).cmp (λ k. eq_by_cmp o.cmp a k.0) es) (where_key (pairs o p).cmp
      (λ k. eq_by_cmp o.cmp a k.0) es))))) [
        | true ↦ λ t. both _ _ (rest_below o p a x e.0 s t (first _ _ h)) rest
        | false ↦ λ t. rest
      ] refl

  pub sorted_under : (a : A) (es : List ((A × B) × X)) → T (is_sorted (pairs o p).cmp es) → T (is_sorted p.cmp (rows_under a es))
  sorted_under a [] h = tt
  sorted_under a (e ∷ es) h =
      let rest = sorted_under a es (second _ _ h) in
      elim (eq_by_cmp o.cmp a e.0.0) as (λ b. eq_by_cmp o.cmp a e.0.0 ≡ b
      → T (is_sorted p.cmp (each
      (λ e. (e.0.1, e.1)) (cond b (e ∷ where_key (pairs o p).cmp (λ k. eq_by_cmp o.cmp a k.0) es) (where_key (pairs o p).cmp
      (λ k. eq_by_cmp o.cmp a k.0) es))))) [
        | true ↦ λ t. both _ _ (below_under a e.0 es t (first _ _ h)) rest
        | false ↦ λ t. rest
      ] refl

  -- the table by the second part of the keys that begin with this
  abbrev pub under : Table (pairs o p) X → A → Table p X
  under m a = record { rows = rows_under a m.rows; sorted = sorted_under a m.rows m.sorted }
