-- Sets of units, and the lists that they are of.
use Rattle.std.specs.Prelude.{◌≡◌, ◌<◌, ◌≤◌, ◌+◌, ℕ, Bool, true, false, cond, ◌||◌, List, [], ◌∷◌, ◌++◌, map as each, length, take, drop, slice_index_or, Option, Some, None, refl}
use Rattle.std.specs.FinMap.Entries.{is_some-find}
use Rattle.std.specs.List.{filter, list_any}
use Rattle.std.specs.Ordering.{eq_by_cmp}
use Rattle.std.proofs.Common.{sym, ap, subst, ◌∙◌, arith}
use Rattle.std.proofs.lemmas.List.{take-append-drop}
use Rattle.std.proofs.lemmas.List.Folds.{list_any-append}
use Rattle.rsvp_base.specs.Keys.{Keys}
use Rattle.rsvp_base.specs.Sets.{Set, listed, set_of, union, with_key, with_keys}
use Rattle.rsvp_base.specs.Table.{Table, changed, changed_rows, has, keys, kept_row, size, with_rows}
use Rattle.rsvp_base.proofs.Counts.{has-set_of}
use Rattle.rsvp_base.proofs.Lists.{listed-keys}
use Rattle.rsvp_base.proofs.SetLaws.{has-union, has-with_key, has-with_rows, same_set, size-with_key, size-with_rows}
use Rattle.laws_sends.proofs.Via.{take_one}

module _ {K : Type 0} (o : Keys K) where
  pub has_keys : (s : Set o) (q : K) → has s q ≡ list_any (eq_by_cmp o.cmp q) (keys s)
  has_keys s q = is_some-find o.cmp q s.rows

  -- a set is that of its keys
  pub set_of_keys : (s : Set o) → set_of {o = o} (keys s) ≡ s
  set_of_keys s = same_set o _ _ (λ q. has-set_of o (keys s) q ∙ sym (has_keys s q))

  pub set_of_both : (xs ys : List K) → set_of {o = o} (xs ++ ys) ≡ union (set_of {o = o} xs) (set_of {o = o} ys)
  set_of_both xs ys =
      same_set o _ _ (λ q. has-set_of o (xs ++ ys) q ∙ list_any-append (eq_by_cmp o.cmp q) xs ys ∙ (λ i. sym (has-set_of o xs q) i || sym (has-set_of o ys q) i)
      ∙ sym (has-union o (set_of {o = o} xs) (set_of {o = o} ys) q))

  pub union_none : (s : Set o) → union s (set_of {o = o} []) ≡ s
  union_none s = refl

  -- ---- keys that are added one after another
  has-with_keys : (s : Set o) (ks : List K) (q : K) → has (with_keys s ks) q ≡ (has s q || list_any (eq_by_cmp o.cmp q) ks)
  has-with_keys s ks q = has-with_rows o (listed ks) s q ∙ ap (λ es. has s q || list_any (eq_by_cmp o.cmp q) es) (back ks)
    where
      back : (xs : List K) → each (λ (e : K × Unit {0}). e.0) (listed xs) ≡ xs
      back [] = refl
      back (x ∷ xs) = ap (λ ys. x ∷ ys) (back xs)

  pub with_one_more : (s : Set o) (ks : List K) (k : K) → with_key (with_keys s ks) k ≡ with_keys s (ks ++ k ∷ [])
  with_one_more s ks k =
      same_set o _ _ (λ q. has-with_key o (with_keys s ks) k q ∙ ap (λ b. eq_by_cmp o.cmp q k || b) (has-with_keys s ks q) ∙ turned (has s q) (list_any (eq_by_cmp o.cmp q) ks) (eq_by_cmp o.cmp q k)
      ∙ ap (λ b. has s q || b) (sym (list_any-append (eq_by_cmp o.cmp q) ks (k ∷ [])))
      ∙ sym (has-with_keys s (ks ++ k ∷ []) q))
    where
      turned : (a b c : Bool) → (c || (a || b)) ≡ (a || (b || (c || false)))
      turned true b true = refl
      turned true b false = refl
      turned false true true = refl
      turned false true false = refl
      turned false false true = refl
      turned false false false = refl

  pub with_next : (s t : Set o) (ks : List K) (i : ℕ) (d : K) → i < length ks → t ≡ with_keys s (take i ks) → with_key t (slice_index_or ks i d) ≡ with_keys s (take (i + 1) ks)
  with_next s t ks i d h is = ap (λ (z : Set o). with_key z (slice_index_or ks i d)) is ∙ with_one_more s (take i ks) (slice_index_or ks i d) ∙ ap (with_keys s) (sym (take_one ks i d h))

  with_rows_both : (s : Set o) (es fs : List (K × Unit {0})) → with_rows s (es ++ fs) ≡ with_rows (with_rows s es) fs
  with_rows_both s [] fs = refl
  with_rows_both s (e ∷ es) fs = with_rows_both (with_key s e.0) es fs

  listed_both : (xs ys : List K) → listed (xs ++ ys) ≡ listed xs ++ listed ys
  listed_both [] ys = refl
  listed_both (x ∷ xs) ys = ap (λ es. (x, tt) ∷ es) (listed_both xs ys)

  pub size_front : (s : Set o) (ks : List K) (i : ℕ) → size (with_keys s (take i ks)) ≤ size (with_keys s ks)
  size_front s ks i =
      let more = size-with_rows o (listed (drop i ks)) (with_keys s (take i ks)) in
      let all : with_rows (with_keys s (take i ks)) (listed (drop i ks)) ≡ with_keys s ks = sym (with_rows_both s (listed (take i ks)) (listed (drop i ks)))
      ∙ ap (with_rows s) (sym (listed_both (take i ks) (drop i ks)) ∙ ap listed (take-append-drop i ks)) in
      subst (λ (w : Set o). size (with_keys s (take i ks)) ≤ size w) all more

  pub with_keys_of : (s t : Set o) → with_keys s (keys t) ≡ union s t
  with_keys_of s t = ap (with_rows s) (listed-keys t.rows)

  pub room_next : (s t : Set o) (ks : List K) (i : ℕ) (d : K) → i < length ks → t ≡ with_keys s (take i ks) → (more : Set o) → ks ≡ keys more → size (union s more) ≤ 16
      → size (with_key t (slice_index_or ks i d)) ≤ 16
  room_next s t ks i d h is more all few =
      let next = ap size (with_next s t ks i d h is) in
      let front = size_front s ks (i + 1) in
      let whole = ap size (ap (with_keys s) all ∙ with_keys_of s more) in
      omega (arith, next, front, whole, few)

  pub size_one_more : (s : Set o) (k : K) → size (with_key s k) ≤ size s + 1
  size_one_more s k = by (has s k) (size-with_key o s k)
    where
      by : (b : Bool) → size (with_key s k) ≡ cond b (size s) (size s + 1) → size (with_key s k) ≤ size s + 1
      by true e = omega (arith, e)
      by false e = omega (arith, e)

  -- ---- the keys of the rows that pass a test
  module _ {X : Type 0} (test : K × X → Bool) where
    abbrev passing : K → X → Option (Unit {0})
    passing k x = cond (test (k, x)) (Some tt) None

    passed : (es : List (K × X)) → each (λ e. e.0) (changed_rows passing es) ≡ each (λ e. e.0) (filter test es)
    passed [] = refl
    passed (e ∷ es) = by (test e) (passed es)
      where
        by : (b : Bool) → each (λ z. z.0) (changed_rows passing es) ≡ each (λ z. z.0) (filter test es)
            → each (λ z. z.0) (kept_row e.0 (cond {A = Option (Unit {0})} b (Some tt) None) (changed_rows passing es)) ≡ each (λ z. z.0) (cond b (e ∷ filter test es) (filter test es))
        by true ih = ap (λ ks. e.0 ∷ ks) ih
        by false ih = ih

    -- they stand in order
    pub keys_passed : (m : Table o X) → keys (set_of {o = o} (each (λ e. e.0) (filter test m.rows))) ≡ each (λ e. e.0) (filter test m.rows)
    keys_passed m = ap (λ ks. keys (set_of {o = o} ks)) (sym (passed m.rows)) ∙ ap keys (set_of_keys (changed {o = o} passing m)) ∙ passed m.rows
