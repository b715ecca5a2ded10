-- How long lists are that are made from lists, and how many rows a table has that is made from one.
use Rattle.std.specs.Prelude.{◌≡◌, ℕ, ◌+◌, ◌*◌, ◌≤◌, Bool, true, false, cond, List, [], ◌∷◌, ◌++◌, length, map as each, Option, None, Some, refl}
use Rattle.std.proofs.Common.{sym, ap, ◌∙◌, arith}
use Rattle.std.proofs.lemmas.List.{length-append, length-map}
use Rattle.std.specs.Ordering.{is_lt}
use Rattle.std.specs.List.{cons_option, filter, filter_map, flat_map}
use Rattle.rsvp_base.specs.Keys.{Keys}
use Rattle.rsvp_base.specs.Table.{Table, empty, has, put_in, size, with_rows}
use Rattle.rsvp_base.proofs.Tables.{either, size-put_in}
use Rattle.style_rules.specs.Merge.{put_some, table_at}
use Rattle.router_rules.specs.Inputs.{in_order, put_in_order}

-- ---- lists
one_or_none : {A : Type 0} (b : Bool) (x : A) (ys : List A) → length (cond b (x ∷ ys) ys) ≤ length ys + 1
one_or_none true x ys = omega arith
one_or_none false x ys = omega arith

pub few_pass : {A : Type 0} (t : A → Bool) (xs : List A) → length (filter t xs) ≤ length xs
few_pass t [] = omega arith
few_pass t (x ∷ xs) = omega (arith, one_or_none (t x) x (filter t xs), few_pass t xs)

one_if_some : {B : Type 0} (o : Option B) (ys : List B) → length (cons_option o ys) ≤ length ys + 1
one_if_some None ys = omega arith
one_if_some (Some y) ys = omega arith

pub few_given : {A B : Type 0} (h : A → Option B) (xs : List A) → length (filter_map h xs) ≤ length xs
few_given h [] = omega arith
few_given h (x ∷ xs) = omega (arith, one_if_some (h x) (filter_map h xs), few_given h xs)

-- each gives at most one, three, or sixteen
pub one_each : {A B : Type 0} (h : A → List B) (xs : List A) → ((x : A) → length (h x) ≤ 1) → length (flat_map h xs) ≤ length xs
one_each h [] few = omega arith
one_each h (x ∷ xs) few = omega (arith, length-append (h x) (flat_map h xs), few x, one_each h xs few)

pub three_each : {A B : Type 0} (h : A → List B) (xs : List A) → ((x : A) → length (h x) ≤ 3) → length (flat_map h xs) ≤ 3 * length xs
three_each h [] few = omega arith
three_each h (x ∷ xs) few = omega (arith, length-append (h x) (flat_map h xs), few x, three_each h xs few)

pub sixteen_each : {A B : Type 0} (h : A → List B) (xs : List A) → ((x : A) → length (h x) ≤ 16) → length (flat_map h xs) ≤ 16 * length xs
sixteen_each h [] few = omega arith
sixteen_each h (x ∷ xs) few = omega (arith, length-append (h x) (flat_map h xs), few x, sixteen_each h xs few)

-- lists in the order of a key
module _ {X K : Type 0} (o : Keys K) (key : X → K) where
  put_one : (x : X) (ys : List X) → length (put_in_order o key x ys) ≡ length ys + 1
  put_one x [] = refl
  put_one x (y ∷ ys) = by (is_lt (o.cmp (key y) (key x))) (put_one x ys)
    where
      by : (b : Bool) → length (put_in_order o key x ys) ≡ length ys + 1 → length (cond b (y ∷ put_in_order o key x ys) (x ∷ y ∷ ys)) ≡ length (y ∷ ys) + 1
      by true rest = omega (arith, rest)
      by false rest = omega arith

  pub as_many_in_order : (xs : List X) → length (in_order o key xs) ≡ length xs
  as_many_in_order [] = refl
  as_many_in_order (x ∷ xs) = omega (arith, put_one x (in_order o key xs), as_many_in_order xs)

-- ---- tables
module _ {K X : Type 0} (o : Keys K) where
  put_at_most : (m : Table o X) (k : K) (v : X) → size (put_in m k v) ≤ size m + 1
  put_at_most m k v = by (has m k) (size-put_in o m k v)
    where
      by : (b : Bool) → size (put_in m k v) ≡ cond b (size m) (size m + 1) → size (put_in m k v) ≤ size m + 1
      by true e = omega (arith, e)
      by false e = omega (arith, e)

  pub rows_at_most : (es : List (K × X)) (m : Table o X) → size (with_rows m es) ≤ size m + length es
  rows_at_most [] m = omega arith
  rows_at_most (e ∷ es) m = omega (arith, rows_at_most es (put_in m e.0 e.1), put_at_most m e.0 e.1)

  some_at_most : (k : K) (v : Option X) (m : Table o X) → size (put_some k v m) ≤ size m + 1
  some_at_most k None m = omega arith
  some_at_most k (Some v) m = put_at_most m k v

  pub table_at_most : (f : K → Option X) (ks : List K) → size (table_at {o = o} f ks) ≤ length ks
  table_at_most f [] = omega arith
  table_at_most f (k ∷ ks) = omega (arith, some_at_most k (f k) (table_at f ks), table_at_most f ks)
