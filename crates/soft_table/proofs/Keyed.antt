-- Rows in order, seen by their keys alone.
use Rattle.std.proofs.Common.{◌≡◌, ◌≤◌, ◌||◌, ℕ, zero, suc, Bool, true, false, cond, T, List, [], ◌∷◌, take, drop, map as each, Option, Some, None, refl, sym, ap, ◌∙◌, arith, length}
use Rattle.std.specs.Prelude.{slice_get}
use Rattle.std.specs.List.{list_any}
use Rattle.std.specs.Option.{option_map}
use Rattle.std.specs.Ordering.{eq_by_cmp, is_lt, ordering_reverse}
use Rattle.std.specs.FinMap.Entries.{where_key, is_sorted}
use Rattle.std.specs.declared.cmp.Ordering.TheVariants.{Greater}
use Rattle.std.proofs.lemmas.List.{length-map}
use Rattle.rsvp_base.specs.Keys.{Keys, pairs}
use Rattle.rsvp_base.specs.Table.{changed_rows, first, second, passes}
use Rattle.rsvp_base.specs.Under.{rows_under}
use Rattle.rsvp_base.proofs.Tables.{either, less_not_equal, tied_same}
use Rattle.soft_table.proofs.Steps.{below_kth, first_dropped}

abbrev pub keys_of : {R X : Type 0} → List (R × X) → List R
keys_of es = each (λ e. e.0) es

pub key_got : {R X : Type 0} (es : List (R × X)) (i : ℕ) → slice_get (keys_of es) i ≡ option_map (λ e. e.0) (slice_get es i)
key_got [] i = refl
key_got (e ∷ es) zero = refl
key_got (e ∷ es) (suc i) = key_got es i

pub row_got : {R X : Type 0} (es : List (R × X)) (i : ℕ) (r : R) → slice_get (keys_of es) i ≡ Some r → (x : R × X) × (slice_get es i ≡ Some x) × (x.0 ≡ r)
row_got {R} {X} es i r at = by (slice_get es i) refl (sym (key_got es i) ∙ at)
  where
    by : (w : Option (R × X)) → slice_get es i ≡ w → option_map (λ (e : R × X). e.0) w ≡ Some r → (x : R × X) × (slice_get es i ≡ Some x) × (x.0 ≡ r)
    by None is e = cc
    by (Some x) is e = (x, is, (cc))

pub first_key : {R X : Type 0} (es : List (R × X)) (n : ℕ) → slice_get (keys_of (drop n es)) 0 ≡ slice_get (keys_of es) n
first_key es n = key_got (drop n es) 0 ∙ ap (option_map (λ e. e.0)) (first_dropped es n) ∙ sym (key_got es n)

or_both : (a b : Bool) → a ≡ false → b ≡ false → (a || b) ≡ false
or_both true b e f = cc
or_both false b e f = f

-- up to a row, no key stands behind it
pub none_upto : {R X : Type 0} (o : Keys R) (es : List (R × X)) (i : ℕ) (x : R × X) (b : R) → T (is_sorted o.cmp es) → slice_get es i ≡ Some x → is_lt (o.cmp x.0 b) ≡ true
    → list_any (λ c. eq_by_cmp o.cmp c b) (take (suc i) (keys_of es)) ≡ false
none_upto o [] i x b up at lt = cc
none_upto o (e ∷ es) zero x b up at lt = let is : e ≡ x = cc in or_both _ false (ap (λ z. eq_by_cmp o.cmp z.0 b) is ∙ less_not_equal _ (passes _ lt)) refl
none_upto o (e ∷ es) (suc i) x b up at lt =
    or_both _ _
    (either (eq_by_cmp o.cmp e.0 b)
    (λ tie.
    let over : o.cmp x.0 e.0 ≡ Greater = o.total.antisymm x.0 e.0 ∙ ap ordering_reverse (below_kth o e.0 es i x (first _ _ up) at) in
    let z : true ≡ false = sym lt ∙ ap (λ c. is_lt (o.cmp x.0 c)) (sym (tied_same o e.0 b tie)) ∙ ap is_lt over in
    absurd (cc))
    (λ f. f))
    (none_upto o es i x b (second _ _ up) at lt)

-- ---- a function of the values changes no key
module _ {R X Y : Type 0} (h : X → Y) where
  pub keys-valued : (es : List (R × X)) → keys_of (changed_rows (λ k x. Some (h x)) es) ≡ keys_of es
  keys-valued [] = refl
  keys-valued (e ∷ es) = ap (λ rs. e.0 ∷ rs) (keys-valued es)

  pub keys_where-valued : (o : Keys R) (test : R → Bool) (es : List (R × X)) → keys_of (where_key o.cmp test (changed_rows (λ k x. Some (h x)) es)) ≡ keys_of (where_key o.cmp test es)
  keys_where-valued o test [] = refl
  keys_where-valued o test (e ∷ es) = by (test e.0) (keys_where-valued o test es)
    where
      by : (b : Bool) → keys_of (where_key o.cmp test (changed_rows (λ k x. Some (h x)) es)) ≡ keys_of (where_key o.cmp test es)
          → keys_of {X = Y} (cond b ((e.0, h e.1) ∷ where_key o.cmp test (changed_rows (λ k x. Some (h x)) es)) (where_key o.cmp test (changed_rows (λ k x. Some (h x)) es)))
          ≡ keys_of {X = X} (cond b (e ∷ where_key o.cmp test es) (where_key o.cmp test es))
      by true ih = ap (λ rs. e.0 ∷ rs) ih
      by false ih = ih

-- ---- a choice of rows has no more of them
pub where_no_more : {K X : Type 0} (o : Keys K) (test : K → Bool) (es : List (K × X)) → length (where_key o.cmp test es) ≤ length es
where_no_more o test [] = omega arith
where_no_more {K} {X} o test (e ∷ es) = by (test e.0) (where_no_more o test es)
  where
    by : (b : Bool) → length (where_key o.cmp test es) ≤ length es → length {A = K × X} (cond b (e ∷ where_key o.cmp test es) (where_key o.cmp test es)) ≤ length (e ∷ es)
    by true rest = omega arith
    by false rest = omega arith

pub under_no_more : {A B X : Type 0} (o : Keys A) (p : Keys B) (a : A) (es : List ((A × B) × X)) → length (rows_under o p a es) ≤ length es
under_no_more {A} {B} {X} o p a es =
    let cut : (A × B) × X → B × X = λ e. (e.0.1, e.1) in
    let test : A × B → Bool = λ k. eq_by_cmp o.cmp a k.0 in
    omega (arith, where_no_more (pairs o p) test es, length-map (where_key (pairs o p).cmp test es) cut)
