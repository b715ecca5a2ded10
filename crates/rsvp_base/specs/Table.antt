-- Finite maps that compute: rows in the order of their keys, no key twice. Equal tables have equal rows.
use Rattle.std.specs.Prelude.{◌≡◌, ℕ, Bool, true, false, not, ◌&&◌, List, [], ◌∷◌, map as each, length, is_some, Option, Some, None}
use Rattle.std.proofs.Common.{T}
use Rattle.std.specs.Coded.{Coded, coded×, coded_list}
use base.Stored.{coded_via}
use lib.Dec.{T_prop}
use mathlib.Core.HLevel.{Σ_prop_path}
use Rattle.std.specs.Ordering.{eq_by_cmp, is_lt}
use Rattle.std.specs.FinMap.Entries.{put, find, where_key, below_all, is_sorted, is_sorted-put, is_sorted-where_key}
use Rattle.std.specs.declared.cmp.Ordering.{Ordering}
use Rattle.rsvp_base.specs.Keys.{Keys}

pub record Table {K : Type 0} (o : Keys K) (X : Type 0) : Type 0 where
  pub rows : List (K × X)
  pub sorted : T (is_sorted o.cmp rows)

module _ {K X : Type 0} {o : Keys K} where
  abbrev pub empty : Table o X
  empty = record { rows = []; sorted = tt }

  -- what stands under a key
  abbrev pub get : Table o X → K → Option X
  get m k = find o.cmp k m.rows

  abbrev pub has : Table o X → K → Bool
  has m k = is_some (get m k)

  abbrev pub size : Table o X → ℕ
  size m = length m.rows

  abbrev pub keys : Table o X → List K
  keys m = each (λ e. e.0) m.rows

  abbrev pub values : Table o X → List X
  values m = each (λ e. e.1) m.rows

  -- with this under this key, in place of what was there
  abbrev pub put_in : Table o X → K → X → Table o X
  put_in m k v = record { rows = put o.cmp k v m.rows; sorted = is_sorted-put o.cmp o.total k v m.rows m.sorted }

  -- with each of the rows, later ones in place of earlier ones
  abbrev pub with_rows : Table o X → List (K × X) → Table o X
  with_rows m [] = m
  with_rows m (e ∷ es) = with_rows (put_in m e.0 e.1) es

  -- the rows whose keys pass the test
  abbrev pub kept : (K → Bool) → Table o X → Table o X
  kept p m = record { rows = where_key o.cmp p m.rows; sorted = is_sorted-where_key o.cmp p m.rows m.sorted }

  abbrev pub without : Table o X → K → Table o X
  without m k = kept (λ x. not (eq_by_cmp o.cmp k x)) m

-- ---- each row changed or dropped, the one way to make a table from a table
abbrev pub kept_row : {K Y : Type 0} → K → Option Y → List (K × Y) → List (K × Y)
kept_row k None es = es
kept_row k (Some y) es = (k, y) ∷ es

-- the rows for which f gives something, with what it gives
abbrev pub changed_rows : {K X Y : Type 0} → (K → X → Option Y) → List (K × X) → List (K × Y)
changed_rows f [] = []
changed_rows f (e ∷ es) = kept_row e.0 (f e.0 e.1) (changed_rows f es)

-- a test that is true passes
pub passes : (b : Bool) → b ≡ true → T b
passes true e = tt
passes false e = cc

pub both : (a b : Bool) → T a → T b → T (a && b)
both true b p q = q
both false b p q = p

pub first : (a b : Bool) → T (a && b) → T a
first true b p = tt
first false b p = p

pub second : (a b : Bool) → T (a && b) → T b
second true b p = p
second false b p = absurd p

module _ {K X Y : Type 0} (R : K → K → Ordering) (f : K → X → Option Y) where
  below_kept : (x k : K) (o : Option Y) (es : List (K × Y)) → T (is_lt (R x k)) → T (below_all R x es) → T (below_all R x (kept_row k o es))
  below_kept x k None es p q = q
  below_kept x k (Some y) es p q = both _ _ p q

  below_changed : (x : K) (es : List (K × X)) → T (below_all R x es) → T (below_all R x (changed_rows f es))
  below_changed x [] h = tt
  below_changed x (e ∷ es) h = below_kept x e.0 (f e.0 e.1) (changed_rows f es) (first _ _ h) (below_changed x es (second _ _ h))

  sorted_kept : (k : K) (o : Option Y) (es : List (K × Y)) → T (below_all R k es) → T (is_sorted R es) → T (is_sorted R (kept_row k o es))
  sorted_kept k None es p q = q
  sorted_kept k (Some y) es p q = both _ _ p q

  pub sorted_changed : (es : List (K × X)) → T (is_sorted R es) → T (is_sorted R (changed_rows f es))
  sorted_changed [] h = tt
  sorted_changed (e ∷ es) h = sorted_kept e.0 (f e.0 e.1) (changed_rows f es) (below_changed e.0 es (first _ _ h)) (sorted_changed es (second _ _ h))

abbrev pub changed : {K X Y : Type 0} {o : Keys K} → (K → X → Option Y) → Table o X → Table o Y
changed {o = o} f m = record { rows = changed_rows f m.rows; sorted = sorted_changed o.cmp f m.rows m.sorted }

-- ---- tables as values of models
pub same_rows : {K X : Type 0} {o : Keys K} (m n : Table o X) → m.rows ≡ n.rows → m ≡ n
same_rows {K} {X} {o} m n e =
    let pairs : ◌≡◌ {A = (es : List (K × X)) × T (is_sorted o.cmp es)} (m.rows, m.sorted) (n.rows, n.sorted) = Σ_prop_path (λ es. T_prop _) e in
    λ i. record { rows = (pairs i).0; sorted = (pairs i).1 }

abbrev pub rows_of : {K X : Type 0} {o : Keys K} → Table o X → List (K × X)
rows_of m = m.rows

-- a table has a code where its keys and values have one
abbrev pub table_code : {K X : Type 0} (o : Keys K) → Coded K → Coded X → Coded (Table o X)
table_code o k x = coded_via (coded_list (coded× k x)) rows_of same_rows
