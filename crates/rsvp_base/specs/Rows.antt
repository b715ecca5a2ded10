-- Lists whose elements stand for the rows of a table, in the order of their keys.
use Rattle.std.specs.Prelude.{◌≡◌, ℕ, ◌<◌, ◌≤◌, List, map as each, IsTrue, length, not, Some, None, slice_index_or}
use Rattle.std.specs.List.{insert, remove, slice_set}
use Rattle.std.specs.Ordering.{eq_by_cmp}
use Rattle.std.specs.FinMap.Entries.{is_sorted, find, put, where_key}
use Rattle.rsvp_base.specs.Keys.{Keys}
use Rattle.rsvp_base.specs.Table.{Table, passes}

module _ {A K X : Type 0} (o : Keys K) (row : A → K × X) where
  -- each key comes before those after it
  abbrev pub AreRows : List A → Type 0
  AreRows xs = IsTrue (is_sorted o.cmp (each row xs))

  abbrev pub table_of : (xs : List A) → AreRows xs → Table o X
  table_of xs up = record { rows = each row xs; sorted = passes _ up }

  -- the key's row stands at this place
  pub record HasRowAt (xs : List A) (k : K) (i : ℕ) : Type 0 where
    pub within : i < length xs
    pub key : (d : A) → (row (slice_index_or xs i d)).0 ≡ k
    pub found : (d : A) → find o.cmp k (each row xs) ≡ Some (row (slice_index_or xs i d)).1
    pub replaced : (a : A) (v : X) → row a ≡ (k, v) → put o.cmp k v (each row xs) ≡ each row (slice_set xs i a)
    pub taken : where_key o.cmp (λ x. not (eq_by_cmp o.cmp k x)) (each row xs) ≡ each row (remove xs i)

  -- the key has no row, and one would go to this place
  pub record LacksRowAt (xs : List A) (k : K) (i : ℕ) : Type 0 where
    pub within : i ≤ length xs
    pub absent : find o.cmp k (each row xs) ≡ None
    pub inserted : (a : A) (v : X) → row a ≡ (k, v) → put o.cmp k v (each row xs) ≡ each row (insert xs i a)
