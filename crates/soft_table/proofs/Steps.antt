-- A walk along a session's facts, from the first on and each behind the last.
use Rattle.std.proofs.Common.{◌≡◌, ◌+◌, ℕ, zero, suc, true, false, cond, T, List, [], ◌∷◌, drop, map as each, Option, Some, None, refl, sym, ap, subst, ◌∙◌, arith}
use Rattle.std.specs.Prelude.{slice_get, IsTrue}
use Rattle.std.specs.Cmp.{tied_itself}
use Rattle.std.specs.Option.{option_map}
use Rattle.std.specs.Ordering.{eq_by_cmp, is_lt, ordering_reverse}
use Rattle.std.specs.FinMap.Entries.{where_key, is_sorted, below_all}
use Rattle.std.specs.declared.cmp.Ordering.{Ordering}
use Rattle.std.specs.declared.cmp.Ordering.TheVariants.{Less, Equal, Greater}
use Rattle.rsvp_base.specs.Keys.{Keys}
use Rattle.rsvp_base.specs.Orders.{sessions}
use Rattle.rsvp_base.specs.Table.{passes, first, second}
use Rattle.rsvp_base.specs.Under.{rows_under, sorted_under}
use Rattle.rsvp_base.specs.declared.session.Session.{Session}
use Rattle.soft_table.specs.Facts.{fact_keys, facts_by, rows_behind}
use Rattle.soft_table.specs.Walks.{fact_at, facts_from}

pub less_is : (w : Ordering) → T (is_lt w) → w ≡ Less
less_is Less h = refl
less_is Equal h = absurd h
less_is Greater h = absurd h

module _ {R X : Type 0} (rests : Keys R) where
  -- in order, what stands behind the first is the rest
  pub all_above : (r : R) (es : List (R × X)) → T (below_all rests.cmp r es) → rows_behind rests r es ≡ es
  all_above r [] h = refl
  all_above r (e ∷ es) h = ap (λ w. cond (is_lt w) (e ∷ rows_behind rests r es) (rows_behind rests r es)) (less_is _ (first _ _ h)) ∙ ap (λ zs. e ∷ zs) (all_above r es (second _ _ h))

  pub below_kth : (r : R) (es : List (R × X)) (k : ℕ) (x : R × X) → T (below_all rests.cmp r es) → slice_get es k ≡ Some x → rests.cmp r x.0 ≡ Less
  below_kth r [] k x h at = cc
  below_kth r (e ∷ es) zero x h at = let is : e ≡ x = cc in ap (λ (z : R × X). rests.cmp r z.0) (sym is) ∙ less_is _ (first _ _ h)
  below_kth r (e ∷ es) (suc k) x h at = below_kth r es k x (second _ _ h) at

  pub behind_drop : (es : List (R × X)) (k : ℕ) (x : R × X) → T (is_sorted rests.cmp es) → slice_get es k ≡ Some x → rows_behind rests x.0 es ≡ drop (suc k) es
  behind_drop [] k x up at = cc
  behind_drop (e ∷ es) zero x up at =
      let is : e ≡ x = cc in
      ap (λ (z : R × X). rows_behind rests z.0 (e ∷ es)) (sym is) ∙ ap (λ w. cond (is_lt w) (e ∷ rows_behind rests e.0 es) (rows_behind rests e.0 es)) (tied_itself rests.total e.0)
      ∙ all_above e.0 es (first _ _ up)
  behind_drop (e ∷ es) (suc k) x up at =
      let over : rests.cmp x.0 e.0 ≡ Greater = rests.total.antisymm x.0 e.0 ∙ ap ordering_reverse (below_kth e.0 es k x (first _ _ up) at) in
      ap (λ w. cond (is_lt w) (e ∷ rows_behind rests x.0 es) (rows_behind rests x.0 es)) over ∙ behind_drop es k x (second _ _ up) at

pub dropped_at : {A : Type 0} (es : List A) (k : ℕ) (x : A) → slice_get es k ≡ Some x → drop k es ≡ x ∷ drop (suc k) es
dropped_at [] k x at = cc
dropped_at (e ∷ es) zero x at = let is : e ≡ x = cc in ap (λ z. z ∷ es) is
dropped_at (e ∷ es) (suc k) x at = dropped_at es k x at

pub dropped_all : {A : Type 0} (es : List A) (k : ℕ) → slice_get es k ≡ None → drop k es ≡ []
dropped_all [] zero at = refl
dropped_all [] (suc k) at = refl
dropped_all (e ∷ es) zero at = cc
dropped_all (e ∷ es) (suc k) at = dropped_all es k at

pub first_dropped : {A : Type 0} (es : List A) (k : ℕ) → slice_get (drop k es) 0 ≡ slice_get es k
first_dropped [] zero = refl
first_dropped [] (suc k) = refl
first_dropped (e ∷ es) zero = refl
first_dropped (e ∷ es) (suc k) = first_dropped es k

module _ {F R : Type 0} (rests : Keys R) (key : F → Session × R) (s : Session) (fs : List (F × ℕ)) where
  -- the session's facts, by the rest of their keys
  abbrev pub those : List (R × (F × ℕ))
  those = rows_under sessions rests s (facts_by key fs)

  own : (gs : List (F × ℕ)) (k : ℕ) (x : R × (F × ℕ)) → slice_get (rows_under sessions rests s (facts_by key gs)) k ≡ Some x → x.0 ≡ (key x.1.0).1
  own [] k x at = cc
  own (g ∷ gs) k x at = by (eq_by_cmp sessions.cmp s (key g.0).0) k at (λ i. own gs i x)
    where
      by : (b : _) (i : ℕ)
          → slice_get (each (λ (e : (Session × R) × (F × ℕ)). (e.0.1, e.1)) (cond b ((key g.0, g) ∷ where_key (fact_keys rests).cmp (λ k. eq_by_cmp sessions.cmp s k.0) (facts_by key gs))
          (where_key (fact_keys rests).cmp (λ k. eq_by_cmp sessions.cmp s k.0) (facts_by key gs)))) i ≡ Some x
          → ((i : ℕ) → slice_get (rows_under sessions rests s (facts_by key gs)) i ≡ Some x → x.0 ≡ (key x.1.0).1) → x.0 ≡ (key x.1.0).1
      by true zero at ih = let is : ◌≡◌ {A = R × (F × ℕ)} ((key g.0).1, g) x = cc in subst (λ (z : R × (F × ℕ)). z.0 ≡ (key z.1.0).1) is refl
      by true (suc i) at ih = ih i at
      by false i at ih = ih i at

  -- a step of the walk, at a fact that was found
  pub record Step (k : ℕ) (f : F) : Type 0 where
    pub row : R × (F × ℕ)
    pub at : slice_get those k ≡ Some row
    pub here : drop k those ≡ row ∷ drop (suc k) those
    pub fact : row.1.0 ≡ f
    pub rest : row.0 ≡ (key f).1

  pub step : (k : ℕ) (f : F) → Some f ≡ fact_at rests key s fs k → Step k f
  step k f is = by (slice_get those k) refl is
    where
      by : (w : Option (R × (F × ℕ))) → slice_get those k ≡ w → Some f ≡ option_map (λ (e : R × (F × ℕ)). e.1.0) w → Step k f
      by None at e = cc
      by (Some x) at e =
          let same : x.1.0 ≡ f = cc in
          record { row = x; at = at; here = dropped_at those k x at; fact = same; rest = own fs k x at ∙ ap (λ g. (key g).1) same }

  pub end : (k : ℕ) → None ≡ fact_at rests key s fs k → drop k those ≡ []
  end k is = by (slice_get those k) refl is
    where
      by : (w : Option (R × (F × ℕ))) → slice_get those k ≡ w → None ≡ option_map (λ (e : R × (F × ℕ)). e.1.0) w → drop k those ≡ []
      by None at e = dropped_all those k at
      by (Some x) at e = cc

  -- the fact behind it is the next
  pub next : IsTrue (is_sorted (fact_keys rests).cmp (facts_by key fs)) → (k : ℕ) (f : F) → Step k f → (r : Option F)
      → r ≡ option_map (λ (e : R × (F × ℕ)). e.1.0) (slice_get (rows_behind rests (key f).1 those) 0) → r ≡ fact_at rests key s fs (k + 1)
  next up k f st r is =
      is ∙ ap (λ q. option_map (λ (e : R × (F × ℕ)). e.1.0) (slice_get (rows_behind rests q those) 0)) (sym st.rest)
      ∙ ap (λ es. option_map (λ (e : R × (F × ℕ)). e.1.0) (slice_get es 0)) (behind_drop rests those k st.row (sorted_under sessions rests s (facts_by key fs) (passes _ up)) st.at)
      ∙ ap (option_map (λ (e : R × (F × ℕ)). e.1.0)) (first_dropped those (suc k)) ∙ ap (fact_at rests key s fs) (one_more k)
    where
      one_more : (n : ℕ) → suc n ≡ n + 1
      one_more n = omega arith

  -- the walk that lends the facts: the k-th comes behind those before it, and then the next, until none is left
  pub met : (k : ℕ) (f : F) (left : List F) → each (λ (e : R × (F × ℕ)). e.1.0) (drop k those) ≡ f ∷ left → Step k f × (left ≡ each (λ (e : R × (F × ℕ)). e.1.0) (drop (k + 1) those))
  met k f left is = by (slice_get those k) refl
    where
      one_more : (n : ℕ) → suc n ≡ n + 1
      one_more n = omega arith

      by : (w : Option (R × (F × ℕ))) → slice_get those k ≡ w → Step k f × (left ≡ each (λ (e : R × (F × ℕ)). e.1.0) (drop (k + 1) those))
      by None at = let none : [] ≡ f ∷ left = sym (ap (each (λ (e : R × (F × ℕ)). e.1.0)) (dropped_all those k at)) ∙ is in absurd (cc)
      by (Some x) at =
          let rows : x.1.0 ∷ each (λ (e : R × (F × ℕ)). e.1.0) (drop (suc k) those) ≡ f ∷ left = sym (ap (each (λ (e : R × (F × ℕ)). e.1.0)) (dropped_at those k x at)) ∙ is in
          let first : x.1.0 ≡ f = cc in
          let others : each (λ (e : R × (F × ℕ)). e.1.0) (drop (suc k) those) ≡ left = cc in
          (step k f (ap Some (sym first) ∙ sym (ap (option_map (λ (e : R × (F × ℕ)). e.1.0)) at)), sym others ∙ ap (λ n. each (λ (e : R × (F × ℕ)). e.1.0) (drop n those)) (one_more k))

  pub all_met : (k : ℕ) → each (λ (e : R × (F × ℕ)). e.1.0) (drop k those) ≡ [] → drop k those ≡ []
  all_met k is = by (drop k those) is
    where
      by : (es : List (R × (F × ℕ))) → each (λ (e : R × (F × ℕ)). e.1.0) es ≡ [] → es ≡ []
      by [] e = refl
      by (x ∷ es) e = cc

  -- the facts from the k-th on
  pub from_kth : IsTrue (is_sorted (fact_keys rests).cmp (facts_by key fs)) → (k : ℕ) (r : Option F) → r ≡ fact_at rests key s fs k
      → facts_from rests key s fs r ≡ each (λ (e : R × (F × ℕ)). e.1.0) (drop k those)
  from_kth up k None is = ap (each (λ (e : R × (F × ℕ)). e.1.0)) (sym (end k is))
  from_kth up k (Some f) is =
      let st = step k f is in
      ap (λ (g : F). g ∷ each (λ (e : R × (F × ℕ)). e.1.0) (rows_behind rests (key f).1 those)) (sym st.fact)
      ∙ ap (λ q. st.row.1.0 ∷ each (λ (e : R × (F × ℕ)). e.1.0) (rows_behind rests q those)) (sym st.rest)
      ∙ ap (λ es. st.row.1.0 ∷ each (λ (e : R × (F × ℕ)). e.1.0) es) (behind_drop rests those k st.row (sorted_under sessions rests s (facts_by key fs) (passes _ up)) st.at)
      ∙ ap (each (λ (e : R × (F × ℕ)). e.1.0)) (sym st.here)

-- nothing was found where nothing is
pub none_at : {A B : Type 0} (f : A → B) (w : Option A) → None ≡ option_map f w → w ≡ None
none_at f None e = refl
none_at f (Some x) e = cc
