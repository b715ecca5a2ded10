-- In which order sends go.
use Rattle.std.specs.Prelude.{◌≡◌, Bool, true, false, cond, not, List, [], ◌∷◌, ◌++◌, map as each, Option, Some, None, refl}
use Rattle.std.proofs.Common.{Ordering, sym, ap, ◌∙◌, ⊎_elim}
use Rattle.std.specs.List.{cons_option, filter, filter_map, flat_map}
use Rattle.std.specs.Ordering.{eq_by_cmp, is_lt, ordering_reverse}
use Rattle.std.specs.declared.cmp.Ordering.TheVariants.{Less, Equal, Greater}
use Rattle.router_rules.specs.RsvpBase.Keys.{Keys}
use Rattle.router_rules.specs.RsvpBase.Members.{In}
use Rattle.router_rules.specs.RsvpBase.Sets.{is_none}
use Rattle.router_rules.specs.RsvpBase.Table.{changed_rows, has, kept_row, keys}
use Rattle.router_rules.proofs.RsvpBase.Tables.{either, tied_same}
use Rattle.router_rules.specs.Lines.{next_hops}
use Rattle.router_rules.specs.Asking.{err_place, err_places}
use Rattle.router_rules.specs.Inputs.{in_order, put_in_order}
use Rattle.router_rules.specs.Known.{lanes}
use Rattle.router_rules.specs.Sends.{path_send_of, path_tear, resv_send_to, resv_tear_send, torn_names}
use Rattle.laws_bounds.specs.OrderLaws.{IsInOrder, IsOrdered, SendsInOrder, conf_place, with_key}
use Rattle.laws_bounds.proofs.Lists.{in_put}
use Rattle.laws_bounds.proofs.Once.{not_below, not_below_itself}

-- ---- lists in the order of a key
less_is : (r : Ordering) → is_lt r ≡ true → r ≡ Less
less_is Less e = refl
less_is Equal e = absurd (cc)
less_is Greater e = absurd (cc)

module _ {X K : Type 0} (o : Keys K) (key : X → K) where
  -- what is not below y, and y is not below x, is not below x
  below_not : (z x y : K) → is_lt (o.cmp z x) ≡ true → is_lt (o.cmp y x) ≡ false → is_lt (o.cmp z y) ≡ true
  below_not z x y a b = by (o.cmp x y) refl
    where
      less : o.cmp z x ≡ Less
      less = less_is (o.cmp z x) a

      by : (r : Ordering) → o.cmp x y ≡ r → is_lt (o.cmp z y) ≡ true
      by Less e = ap is_lt (o.total.trans z x y less e)
      by Equal e = ap is_lt (o.total.antisymm z y ∙ ap ordering_reverse (sym (o.total.congr x y z e)) ∙ sym (o.total.antisymm z x)) ∙ a
      by Greater e = let z : true ≡ false = sym (ap is_lt (o.total.antisymm y x ∙ ap ordering_reverse e)) ∙ b in absurd (cc)

  put_rises : (x : X) (ys : List X) → IsInOrder o key ys → IsInOrder o key (put_in_order o key x ys)
  put_rises x [] h = (λ y i. absurd i, tt)
  put_rises x (y ∷ ys) h = by (is_lt (o.cmp (key y) (key x))) refl (put_rises x ys h.1)
    where
      by : (b : Bool) → is_lt (o.cmp (key y) (key x)) ≡ b → IsInOrder o key (put_in_order o key x ys) → IsInOrder o key (cond b (y ∷ put_in_order o key x ys) (x ∷ y ∷ ys))
      by true e rest = (λ z i. ⊎_elim (λ (is : z ≡ x). ap (λ w. is_lt (o.cmp (key w) (key y))) is ∙ not_below o (key x) (key y) e) (λ (j : In z ys). h.0 z j) (in_put o key z x ys i), rest)
      by false e rest = (
        λ z i.
            ⊎_elim (λ (is : z ≡ y). ap (λ w. is_lt (o.cmp (key w) (key x))) is ∙ e)
            (λ (j : In z ys). either (is_lt (o.cmp (key z) (key x))) (λ lt. let w : true ≡ false = sym (below_not (key z) (key x) (key y) lt e) ∙ h.0 z j in absurd (cc)) (λ n. n)) i,
        h,
      )

  rises : (xs : List X) → IsInOrder o key (in_order o key xs)
  rises [] = tt
  rises (x ∷ xs) = put_rises x (in_order o key xs) (rises xs)

  -- of one key they stay as they came
  module _ (k : K) where
    abbrev test : X → Bool
    test x = eq_by_cmp o.cmp k (key x)

    -- one of the key is not below another
    both_not_below : (x y : X) → is_lt (o.cmp (key y) (key x)) ≡ true → test y ≡ true → test x ≡ false
    both_not_below x y lt t =
        either (test x)
        (λ s.
        let a = tied_same o k (key x) s in
        let b = tied_same o k (key y) t in
        let z : true ≡ false = sym lt ∙ (λ i. is_lt (o.cmp (sym b i) (sym a i))) ∙ not_below_itself o k in
        absurd (cc))
        (λ n. n)

    put_same : (x : X) (ys : List X) → with_key o key k (put_in_order o key x ys) ≡ with_key o key k (x ∷ ys)
    put_same x [] = refl
    put_same x (y ∷ ys) = by (is_lt (o.cmp (key y) (key x))) refl (put_same x ys)
      where
        swap : (s t : Bool) → (t ≡ true → s ≡ false) → cond t (y ∷ cond s (x ∷ with_key o key k ys) (with_key o key k ys)) (cond s (x ∷ with_key o key k ys) (with_key o key k ys))
            ≡ cond s (x ∷ cond t (y ∷ with_key o key k ys) (with_key o key k ys)) (cond t (y ∷ with_key o key k ys) (with_key o key k ys))
        swap true true n = let z : true ≡ false = n refl in absurd (cc)
        swap true false n = refl
        swap false true n = refl
        swap false false n = refl

        by : (b : Bool) → is_lt (o.cmp (key y) (key x)) ≡ b → with_key o key k (put_in_order o key x ys) ≡ with_key o key k (x ∷ ys)
            → with_key o key k (cond b (y ∷ put_in_order o key x ys) (x ∷ y ∷ ys)) ≡ with_key o key k (x ∷ y ∷ ys)
        by false e rest = refl
        by true e rest = ap (λ zs. cond (test y) (y ∷ zs) zs) rest ∙ swap (test x) (test y) (both_not_below x y e)

    same : (xs : List X) → with_key o key k (in_order o key xs) ≡ with_key o key k xs
    same [] = refl
    same (x ∷ xs) = put_same x (in_order o key xs) ∙ ap (λ zs. cond (test x) (x ∷ zs) zs) (same xs)

  pub ordered : (xs : List X) → IsOrdered o key xs (in_order o key xs)
  ordered xs = record { rises = rises xs; same = λ k. same k xs }

-- ---- lists that a table's rows give
-- a row that may give nothing
one_more : {K Y : Type 0} (k : K) (w : Option Y) (ys : List Y) (rows : List (K × Y)) → ys ≡ each (λ (e : K × Y). e.1) rows → cons_option w ys ≡ each (λ (e : K × Y). e.1) (kept_row k w rows)
one_more k None ys rows rest = rest
one_more k (Some y) ys rows rest = λ i. y ∷ rest i

module _ {K X Y : Type 0} where
  given_rows : (f : K → X → Option Y) (es : List (K × X)) → filter_map (λ (e : K × X). f e.0 e.1) es ≡ each (λ (e : K × Y). e.1) (changed_rows f es)
  given_rows f [] = refl
  given_rows f (e ∷ es) = one_more e.0 (f e.0 e.1) (filter_map (λ (e : K × X). f e.0 e.1) es) (changed_rows f es) (given_rows f es)

  given_by_keys : (h : K → Option Y) (es : List (K × X)) → filter_map h (each (λ (e : K × X). e.0) es) ≡ each (λ (e : K × Y). e.1) (changed_rows (λ k (x : X). h k) es)
  given_by_keys h [] = refl
  given_by_keys h (e ∷ es) = one_more e.0 (h e.0) (filter_map h (each (λ (e : K × X). e.0) es)) (changed_rows (λ k (x : X). h k) es) (given_by_keys h es)

-- those that pass a test, and at most one each, are given by an option
module _ {K Y : Type 0} (t : K → Bool) (g : K → Y) where
  passed_first : (b : Bool) (k : K) (ks : List K) → each g (cond b (k ∷ ks) ks) ≡ cons_option (cond b (Some (g k)) None) (each g ks)
  passed_first true k ks = refl
  passed_first false k ks = refl

  pub passed_given : (ks : List K) → each g (filter t ks) ≡ filter_map (λ k. cond (t k) (Some (g k)) None) ks
  passed_given [] = refl
  passed_given (k ∷ ks) = passed_first (t k) k (filter t ks) ∙ ap (cons_option (cond (t k) (Some (g k)) None)) (passed_given ks)

  one_first : (b : Bool) (k : K) (ys : List Y) → cond b [] (g k ∷ []) ++ ys ≡ cons_option (cond b None (Some (g k))) ys
  one_first true k ys = refl
  one_first false k ys = refl

  pub ones_given : (ks : List K) → flat_map (λ k. cond (t k) [] (g k ∷ [])) ks ≡ filter_map (λ k. cond (t k) None (Some (g k))) ks
  ones_given [] = refl
  ones_given (k ∷ ks) = one_first (t k) k (flat_map (λ k. cond (t k) [] (g k ∷ [])) ks) ∙ ap (cons_option (cond (t k) None (Some (g k)))) (ones_given ks)

pub sends_in_order : SendsInOrder
sends_in_order =
    record {
      six = λ old p before after k. refl;
      path_tears_by = λ p before after. passed_given (λ k. not (has after k)) (path_tear p) (keys before) ∙ given_by_keys (λ k. cond (not (has after k)) (Some (path_tear p k)) None) before.rows;
      paths_by = λ p before after fired. given_rows (λ k o. path_send_of p before fired (k, o)) after.rows;
      resv_tears_by = λ old p before after.
          ones_given (λ l. is_none (torn_names old p before after l)) (λ l. resv_tear_send p after l (torn_names old p before after l)) (keys (lanes before))
          ∙ given_by_keys (λ l. cond (is_none (torn_names old p before after l)) None (Some (resv_tear_send p after l (torn_names old p before after l)))) (lanes before).rows;
      resvs_by = λ old p before after k. given_by_keys (resv_send_to old p before after k.fired k.asked) (lanes after).rows;
      errors_by = λ ss. ordered err_places err_place ss;
      confs_by = λ ss. (in_order next_hops conf_place ss, refl, ordered next_hops conf_place ss);
    }
