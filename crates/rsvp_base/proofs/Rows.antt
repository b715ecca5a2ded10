-- A search among rows in order finds the row of its key, or the place of one.
use Rattle.std.specs.Prelude.{◌≡◌, ℕ, ◌+◌, ◌<◌, cond, List, [], ◌∷◌, map as each, length, is_some, Some, None, Result, Ok, Err, IfOk, IfErr, refl}
use Rattle.std.proofs.Common.{◌≤◌, sym, ap, subst, ◌∙◌, arith, T, get_or, set, take, length-set}
use Rattle.std.proofs.Math.Seq.{take-length}
use Rattle.std.proofs.lemmas.List.{length-map, take-append-le}
use Rattle.std.specs.List.{insert, refill}
use Rattle.std.specs.Result.{is_ok}
use Rattle.std.specs.FinMap.Entries.{find, put, is_sorted}
use Rattle.std.specs.List.Sorted.{IsBinarySearchResult, IsSearchInRange}
use Rattle.rsvp_base.specs.Keys.{Keys}
use Rattle.rsvp_base.specs.Table.{Table, get, size, put_in, passes, same_rows}
use Rattle.rsvp_base.specs.Rows.{AreRows, table_of, HasRowAt, LacksRowAt}
use Rattle.rsvp_base.proofs.Tables.{holds, size-put_in}
use Rattle.rsvp_base.proofs.Places.{rising, put_absent, find_absent, find_found, put_found, without_found}

-- what holds at any element holds of a list that has one
by_some : {A : Type 0} {P : Type 0} (xs : List A) (i : ℕ) → i < length xs → ((d : A) → P) → P
by_some [] i lt f = absurd (omega arith)
by_some (x ∷ xs) i lt f = f x

module _ {A K X : Type 0} (o : Keys K) (row : A → K × X) where
  pub searched_found : (xs : List A) (k : K) (r : Result ℕ ℕ) → AreRows o row xs → IsSearchInRange r (length xs) → IsBinarySearchResult (λ x. o.cmp (row x).0 k) xs r → IfOk r (HasRowAt o row xs k)
  searched_found xs k (Ok i) up range is =
      record {
        within = range;
        key = λ d. o.same _ _ (is d);
        found = λ d. find_found o row k xs i d (passes _ up) range (is d);
        replaced = λ a v e. put_found o row k v a e xs i a (passes _ up) range (is a);
        taken = by_some xs i range (λ d. without_found o row k xs i d (passes _ up) range (is d));
      }
  searched_found xs k (Err i) up range is = tt

  pub searched_absent : (xs : List A) (k : K) (r : Result ℕ ℕ) → AreRows o row xs → IsSearchInRange r (length xs) → IsBinarySearchResult (λ x. o.cmp (row x).0 k) xs r → IfErr r (LacksRowAt o row xs k)
  searched_absent xs k (Ok i) up range is = tt
  searched_absent xs k (Err i) up range is =
      let parts = is (rising o row k xs (passes _ up)) in
      record {
        within = range;
        absent = find_absent o row k xs i range parts;
        inserted = λ a v e. put_absent o row k v a e xs i range parts;
      }

  -- a row was found exactly where the key has one
  pub found_where_some : (xs : List A) (k : K) (r : Result ℕ ℕ) → IfOk r (HasRowAt o row xs k) → IfErr r (LacksRowAt o row xs k) → is_ok r ≡ is_some (find o.cmp k (each row xs))
  found_where_some xs k (Ok i) has lacks = by_some xs i has.within (λ d. sym (ap is_some (has.found d)))
  found_where_some xs k (Err i) has lacks = sym (ap is_some lacks.absent)

  -- rows in order are the table that has them
  pub table_is : (xs : List A) (up : AreRows o row xs) (m : Table o X) → each row xs ≡ m.rows → table_of o row xs up ≡ m
  table_is xs up m e = same_rows _ _ e

  -- what is the table's rows is in order
  pub are_rows : (xs : List A) (m : Table o X) → each row xs ≡ m.rows → AreRows o row xs
  are_rows xs m e = holds _ (subst (λ es. T (is_sorted o.cmp es)) (sym e) m.sorted)

  -- ---- a list that is seen as a table
  module _ (xs : List A) (up : AreRows o row xs) (m : Table o X) (is : table_of o row xs up ≡ m) where
    pub rows_are : each row xs ≡ m.rows
    rows_are = ap (λ (t : Table o X). t.rows) is

    pub size_rows : size m ≡ length xs
    size_rows = sym (ap length rows_are) ∙ length-map xs row

    pub get_found : (k : K) (i : ℕ) (d : A) → HasRowAt o row xs k i → get m k ≡ Some (row (get_or xs i d)).1
    get_found k i d h = ap (find o.cmp k) (sym rows_are) ∙ h.found d

    pub get_absent : (k : K) (i : ℕ) → LacksRowAt o row xs k i → get m k ≡ None
    get_absent k i h = ap (find o.cmp k) (sym rows_are) ∙ h.absent

    pub put_over : (k : K) (v : X) (a : A) (i : ℕ) → row a ≡ (k, v) → HasRowAt o row xs k i → each row (set xs i a) ≡ (put_in m k v).rows
    put_over k v a i e h = sym (h.replaced a v e) ∙ ap (put o.cmp k v) rows_are

    pub put_new : (k : K) (v : X) (a : A) (i : ℕ) → row a ≡ (k, v) → LacksRowAt o row xs k i → each row (insert xs i a) ≡ (put_in m k v).rows
    put_new k v a i e h = sym (h.inserted a v e) ∙ ap (put o.cmp k v) rows_are

    pub size-put_over : (k : K) (v : X) (i : ℕ) → HasRowAt o row xs k i → size (put_in m k v) ≡ size m
    size-put_over k v i h = by_some xs i h.within (λ d. size-put_in o m k v ∙ ap (λ w. cond (is_some w) (size m) (size m + 1)) (get_found k i d h))

    pub size-put_new : (k : K) (v : X) (i : ℕ) → LacksRowAt o row xs k i → size (put_in m k v) ≡ size m + 1
    size-put_new k v i h = size-put_in o m k v ∙ ap (λ w. cond (is_some w) (size m) (size m + 1)) (get_absent k i h)

-- rows that are the elements themselves
pub each_itself : {A : Type 0} (xs : List A) → each (λ (x : A). x) xs ≡ xs
each_itself [] = refl
each_itself (x ∷ xs) = ap (λ zs. x ∷ zs) (each_itself xs)

-- a slice with one element written keeps its length, so the list that it was lent from has no more of its own
pub written_back : {A : Type 0} (xs ws : List A) (i : ℕ) (a : A) → ws ≡ xs → refill (length xs) xs (set ws i a) ≡ set xs i a
written_back xs ws i a e =
    let same : length (set ws i a) ≡ length xs = length-set ws i a ∙ ap length e in
    let fits : length xs ≤ length (set ws i a) = omega arith in
    rw take-append-le (ap (λ k. take k (set ws i a)) (sym same) ∙ take-length (set ws i a) ∙ ap (λ zs. set zs i a) e)
