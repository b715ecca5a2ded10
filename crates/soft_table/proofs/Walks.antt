-- Walks along the rows of a session, a row more at a time, and how many sessions there are.
use Rattle.std.proofs.Common.{◌≡◌, ◌≤◌, ◌+◌, ◌-◌, ◌||◌, ℕ, zero, suc, Bool, true, false, cond, is_some, T, List, [], ◌∷◌, length, drop, map as each, Option, Some, None, refl, sym, ap}
use Rattle.std.proofs.Common.{subst, ◌∙◌, arith, inl, inr}
use Rattle.std.specs.Prelude.{slice_get}
use Rattle.std.specs.List.{list_any}
use Rattle.std.specs.Option.{option_map}
use Rattle.std.specs.Ordering.{eq_by_cmp, is_lt, is_eq, ordering_then, ordering_reverse}
use Rattle.std.specs.declared.cmp.Ordering.{Ordering}
use Rattle.std.specs.declared.cmp.Ordering.TheVariants.{Less, Equal, Greater}
use Rattle.std.specs.FinMap.Entries.{is_sorted, below_all, where_key}
use Rattle.std.proofs.lemmas.Bool.{both_ways}
use Rattle.std.proofs.lemmas.Simd.{map-map}
use Rattle.rsvp_base.specs.Keys.{Keys, pairs}
use Rattle.rsvp_base.specs.Members.{In}
use Rattle.rsvp_base.specs.Orders.{sessions}
use Rattle.rsvp_base.specs.Sets.{set_of, with_key}
use Rattle.rsvp_base.specs.Table.{changed_rows, size, first, second, kept_row, kept, get, has, both, passes}
use Rattle.rsvp_base.specs.Under.{rows_under, sorted_under}
use Rattle.rsvp_base.specs.declared.session.Session.{Session}
use Rattle.rsvp_base.proofs.Counts.{has-set_of, found_in}
use Rattle.rsvp_base.proofs.SessionCounts.{is_full, any_under}
use Rattle.rsvp_base.proofs.SetLaws.{has-with_key, same_set, size-with_key}
use Rattle.rsvp_base.proofs.Tables.{either, tied_same, tied_self, get-kept}
use Rattle.soft_table.specs.Lists.{slot_of, sessions_of}
use Rattle.soft_table.specs.declared.cell.Cell.{Cell}
use Rattle.soft_table.specs.declared.cell.Cell.TheVariants.{Free, Live, Due}
use Rattle.soft_table.specs.Cells.{is_live}
use Rattle.soft_table.specs.Facts.{fact_keys, facts_by, rows_behind, sessions_in}
use Rattle.soft_table.specs.Index.{live_in, value_in, facts_in, IsIndex}
use Rattle.soft_table.specs.Walks.{AreSlots, IsWalk, live_of, has_live, changes}
use Rattle.soft_table.proofs.Slots.{value_within}
use Rattle.soft_table.proofs.Changes.{not_live_none, row_led}
use Rattle.soft_table.proofs.Views.{facts_seen}
use Rattle.soft_table.proofs.Links.{seen}
use Rattle.soft_table.proofs.Keyed.{keys_of, row_got}
use Rattle.soft_table.proofs.Steps.{less_is, all_above, dropped_at, dropped_all}

-- a live slot has a fact
pub live_some : {F : Type 0} (c : Option (Cell F)) → is_live c ≡ true → (e : F × ℕ) × (live_in c ≡ Some e)
live_some None e = absurd (both_ways _ refl e)
live_some (Some Free) e = absurd (both_ways _ refl e)
live_some (Some (Live f left)) e = ((f, left), refl)
live_some (Some (Due f)) e = absurd (both_ways _ refl e)

-- ---- rows that are chosen by their keys, and rows that are changed
module _ {K X Y : Type 0} (o : Keys K) (f : K → X → Option Y) (p : K → Bool) where
  pub where_changed : (es : List (K × X)) → where_key o.cmp p (changed_rows f es) ≡ changed_rows f (where_key o.cmp p es)
  where_changed [] = refl
  where_changed (e ∷ es) = by (f e.0 e.1) refl (p e.0) refl (where_changed es)
    where
      by : (w : Option Y) → f e.0 e.1 ≡ w → (b : Bool) → p e.0 ≡ b → where_key o.cmp p (changed_rows f es) ≡ changed_rows f (where_key o.cmp p es)
          → where_key o.cmp p (kept_row e.0 w (changed_rows f es)) ≡ changed_rows f (cond b (e ∷ where_key o.cmp p es) (where_key o.cmp p es))
      by None is true test ih = ih ∙ sym (ap (λ v. kept_row e.0 v (changed_rows f (where_key o.cmp p es))) is)
      by None is false test ih = ih
      by (Some y) is true test ih =
          ap (λ c. cond c ((e.0, y) ∷ where_key o.cmp p (changed_rows f es)) (where_key o.cmp p (changed_rows f es))) test ∙ ap (λ rs. (e.0, y) ∷ rs) ih
          ∙ sym (ap (λ v. kept_row e.0 v (changed_rows f (where_key o.cmp p es))) is)
      by (Some y) is false test ih = ap (λ c. cond c ((e.0, y) ∷ where_key o.cmp p (changed_rows f es)) (where_key o.cmp p (changed_rows f es))) test ∙ ih

module _ {F R : Type 0} (rests : Keys R) (cells : List (Cell F)) where
  cut_live : (es : List ((Session × R) × ℕ)) → each (λ (e : (Session × R) × (F × ℕ)). (e.0.1, e.1)) (live_of cells es) ≡ live_of cells (each (λ (e : (Session × R) × ℕ). (e.0.1, e.1)) es)
  cut_live [] = refl
  cut_live (e ∷ es) = by (live_in (slice_get cells e.1)) (cut_live es)
    where
      by : (w : Option (F × ℕ)) → each (λ (e : (Session × R) × (F × ℕ)). (e.0.1, e.1)) (live_of cells es) ≡ live_of cells (each (λ (e : (Session × R) × ℕ). (e.0.1, e.1)) es)
          → each (λ (e : (Session × R) × (F × ℕ)). (e.0.1, e.1)) (kept_row e.0 w (live_of cells es)) ≡ kept_row e.0.1 w (live_of cells (each (λ (e : (Session × R) × ℕ). (e.0.1, e.1)) es))
      by None ih = ih
      by (Some x) ih = ap (λ rs. (e.0.1, x) ∷ rs) ih

  -- a session's facts are those that its rows lead to
  pub under_live : (s : Session) (rows : List ((Session × R) × ℕ)) → rows_under sessions rests s (live_of cells rows) ≡ live_of cells (rows_under sessions rests s rows)
  under_live s rows =
      ap (each (λ (e : (Session × R) × (F × ℕ)). (e.0.1, e.1))) (where_changed (fact_keys rests) (λ k t. live_in (slice_get cells t)) (λ k. eq_by_cmp sessions.cmp s k.0) rows)
      ∙ cut_live (where_key (fact_keys rests).cmp (λ k. eq_by_cmp sessions.cmp s k.0) rows)

  pub behind_live : (r : R) (es : List (R × ℕ)) → rows_behind rests r (live_of cells es) ≡ live_of cells (rows_behind rests r es)
  behind_live r es = where_changed rests (λ k t. live_in (slice_get cells t)) (λ q. is_lt (rests.cmp r q)) es

-- ---- of rows in order, those behind a rest are those from a place on
module _ {R X : Type 0} (rests : Keys R) where
  below_from : (r a : R) (es : List (R × X)) → rests.cmp r a ≡ Less → T (below_all rests.cmp a es) → T (below_all rests.cmp r es)
  below_from r a [] lt h = tt
  below_from r a (e ∷ es) lt h = both _ _ (passes _ (ap is_lt (rests.total.trans r a e.0 lt (less_is _ (first _ _ h))))) (below_from r a es lt (second _ _ h))

  pub behind_drops : (r : R) (es : List (R × X)) → T (is_sorted rests.cmp es) → (j : ℕ) × (rows_behind rests r es ≡ drop j es)
  behind_drops r [] up = (0, refl)
  behind_drops r (e ∷ es) up =
      either (is_lt (rests.cmp r e.0)) {C = (j : ℕ) × (rows_behind rests r (e ∷ es) ≡ drop j (e ∷ es))}
      (λ t. (0, ap (λ b. cond b (e ∷ rows_behind rests r es) (rows_behind rests r es)) t ∙ ap (λ xs. e ∷ xs) (all_above rests r es (below_from r e.0 es (less_is _ (passes _ t)) (first _ _ up)))))
      (λ n. let rest = behind_drops r es (second _ _ up) in (suc rest.0, ap (λ b. cond b (e ∷ rows_behind rests r es) (rows_behind rests r es)) n ∙ rest.1))

-- ---- a walk along the rows of a session
pub one_less : (n : ℕ) → n ≡ suc n - 1
one_less n = omega arith

later_one : {A : Type 0} (x : A) (xs : List A) (n : ℕ) → (n ≡ 0 → ⊥) → slice_get (x ∷ xs) n ≡ slice_get xs (n - 1)
later_one x xs zero ne = absurd (ne refl)
later_one x xs (suc n) ne = ap (slice_get xs) (one_less n)

pub nothing_left : {A : Type 0} (xs : List A) (i : ℕ) → length xs ≤ i → drop i xs ≡ []
nothing_left [] zero le = refl
nothing_left [] (suc i) le = refl
nothing_left (x ∷ xs) zero le = absurd (omega (arith, le))
nothing_left (x ∷ xs) (suc i) le = nothing_left xs i (omega (arith, le))

pub on_at : {R : Type 0} (w : Option (R × ℕ)) (slot : ℕ) → slot_of w ≡ Some slot → (r : R) × (w ≡ Some (r, slot))
on_at None slot e = cc
on_at (Some x) slot e = let is : x.1 ≡ slot = cc in (x.0, ap (λ n. Some (x.0, n)) is)

off_at : {R : Type 0} (w : Option (R × ℕ)) → slot_of w ≡ None → w ≡ None
off_at None e = refl
off_at (Some x) e = cc

pub some_mapped : {A B : Type 0} (f : A → B) (w : Option A) → is_some (option_map f w) ≡ is_some w
some_mapped f None = refl
some_mapped f (Some x) = refl

module _ {F R : Type 0} (cells : List (Cell F)) (es : List (R × ℕ)) where
  live_here : (i : ℕ) (r : R) (t : ℕ) (e : F × ℕ) → slice_get es i ≡ Some (r, t) → live_in (slice_get cells t) ≡ Some e → live_of cells (drop i es) ≡ (r, e) ∷ live_of cells (drop (suc i) es)
  live_here i r t e at is = ap (live_of cells) (dropped_at es i (r, t) at) ∙ ap (λ w. kept_row r w (live_of cells (drop (suc i) es))) is

  dead_here : (i : ℕ) (r : R) (t : ℕ) → slice_get es i ≡ Some (r, t) → live_in (slice_get cells t) ≡ None → live_of cells (drop i es) ≡ live_of cells (drop (suc i) es)
  dead_here i r t at is = ap (live_of cells) (dropped_at es i (r, t) at) ∙ ap (λ w. kept_row r w (live_of cells (drop (suc i) es))) is

  module _ (j k left step : ℕ) (at : Option ℕ) (w : IsWalk cells es j k at left step) where
    pub walk_row : (slot : ℕ) → at ≡ Some slot → (r : R) × (slice_get es w.place ≡ Some (r, slot))
    walk_row slot is = on_at (slice_get es w.place) slot (sym w.is ∙ is)

    pub walk_found : (slot : ℕ) → at ≡ Some slot → is_live (slice_get cells slot) ≡ true → left ≡ 0
        → option_map (λ (e : R × (F × ℕ)). e.1) (slice_get (live_of cells (drop j es)) k) ≡ live_in (slice_get cells slot)
    walk_found slot is live zero_left =
        let r = walk_row slot is in
        let e = live_some (slice_get cells slot) live in
        ap (option_map (λ (e : R × (F × ℕ)). e.1)) (w.same ∙ ap (slice_get (live_of cells (drop w.place es))) zero_left ∙ ap (λ xs. slice_get xs 0) (live_here w.place r.0 slot e.0 r.1 e.1)) ∙ sym e.1

    pub walk_on : (slot : ℕ) (next : Option ℕ) → at ≡ Some slot → next ≡ slot_of (slice_get es (w.place + 1)) → is_live (slice_get cells slot) ≡ true → (left ≡ 0 → ⊥)
        → IsWalk cells es j k next (left - 1) (step + 1)
    walk_on slot next is next_is live more =
        let r = walk_row slot is in
        let e = live_some (slice_get cells slot) live in
        let on : suc w.place ≡ w.place + 1 = omega arith in
        record {
          place = w.place + 1;
          is = next_is;
          far = omega (arith, w.far);
          same = w.same ∙ ap (λ xs. slice_get xs left) (live_here w.place r.0 slot e.0 r.1 e.1) ∙ later_one (r.0, e.0) (live_of cells (drop (suc w.place) es)) left more
              ∙ ap (λ n. slice_get (live_of cells (drop n es)) (left - 1)) on;
        }

    pub walk_over : (slot : ℕ) (next : Option ℕ) → at ≡ Some slot → next ≡ slot_of (slice_get es (w.place + 1)) → is_live (slice_get cells slot) ≡ false → IsWalk cells es j k next left (step + 1)
    walk_over slot next is next_is dead =
        let r = walk_row slot is in
        let on : suc w.place ≡ w.place + 1 = omega arith in
        record {
          place = w.place + 1;
          is = next_is;
          far = omega (arith, w.far);
          same = w.same ∙ ap (λ xs. slice_get xs left) (dead_here w.place r.0 slot r.1 (not_live_none _ dead)) ∙ ap (λ n. slice_get (live_of cells (drop n es)) left) on;
        }

    pub walk_end : at ≡ None → slice_get (live_of cells (drop j es)) k ≡ None
    walk_end is = w.same ∙ ap (λ xs. slice_get (live_of cells xs) left) (dropped_all es w.place (off_at (slice_get es w.place) (sym w.is ∙ is)))

    pub walk_past : length es ≤ step → slice_get (live_of cells (drop j es)) k ≡ None
    walk_past le = w.same ∙ ap (λ xs. slice_get (live_of cells xs) left) (nothing_left es w.place (omega (arith, le, w.far)))

-- ---- how many sessions
-- one more of the keys of a set, by a test
module _ {K : Type 0} (o : Keys K) (p : K → Bool) (es : List (K × Unit {0})) where
  abbrev pub passing : List (K × Unit {0}) → ℕ
  passing xs = length (where_key o.cmp p xs)

  pub one_more_of : (i : ℕ) (k : K) → slice_get (keys_of es) i ≡ Some k → p k ≡ true → passing (drop i es) ≡ 1 + passing (drop (i + 1) es)
  one_more_of i k at test =
      let x = row_got es i k at in
      let on : suc i ≡ i + 1 = omega arith in
      ap passing (dropped_at es i x.0 x.1) ∙ ap (λ b. length (cond b (x.0 ∷ where_key o.cmp p (drop (suc i) es)) (where_key o.cmp p (drop (suc i) es)))) (ap p x.2 ∙ test)
      ∙ ap (λ n. suc (passing (drop n es))) on ∙ as_sum (passing (drop (i + 1) es))
    where
      as_sum : (n : ℕ) → suc n ≡ 1 + n
      as_sum n = omega arith

  pub none_more_of : (i : ℕ) (k : K) → slice_get (keys_of es) i ≡ Some k → p k ≡ false → passing (drop i es) ≡ passing (drop (i + 1) es)
  none_more_of i k at test =
      let x = row_got es i k at in
      let on : suc i ≡ i + 1 = omega arith in
      ap passing (dropped_at es i x.0 x.1) ∙ ap (λ b. length (cond b (x.0 ∷ where_key o.cmp p (drop (suc i) es)) (where_key o.cmp p (drop (suc i) es)))) (ap p x.2 ∙ test)
      ∙ ap (λ n. passing (drop n es)) on

-- ---- rows in order change the first part of their keys as often as there are such parts
not_after : (r q : Ordering) → T (is_lt (ordering_then r q)) → r ≡ Greater → ⊥
not_after Less q h e = cc
not_after Equal q h e = cc
not_after Greater q h e = h

before : (r q : Ordering) → T (is_lt (ordering_then r q)) → is_eq r ≡ false → r ≡ Less
before Less q h e = refl
before Equal q h e = absurd (both_ways _ e refl)
before Greater q h e = absurd h

set_cons : {A : Type 0} (o : Keys A) (a : A) (ss : List A) → set_of {o = o} (a ∷ ss) ≡ with_key (set_of ss) a
set_cons o a ss = same_set o _ _ (λ q. has-set_of o (a ∷ ss) q ∙ ap (λ b. eq_by_cmp o.cmp q a || b) (sym (has-set_of o ss q)) ∙ sym (has-with_key o (set_of ss) a q))

size_cons : {A : Type 0} (o : Keys A) (a : A) (ss : List A) → size (set_of {o = o} (a ∷ ss)) ≡ cond (list_any (eq_by_cmp o.cmp a) ss) (size (set_of {o = o} ss)) (size (set_of {o = o} ss) + 1)
size_cons o a ss =
    ap size (set_cons o a ss) ∙ size-with_key o (set_of ss) a ∙ ap (λ b. cond b (size (set_of {o = o} ss)) (size (set_of {o = o} ss) + 1)) (has-set_of o ss a)

module _ {A R V : Type 0} (o : Keys A) (rests : Keys R) where
  abbrev firsts : List ((A × R) × V) → List A
  firsts es = each (λ e. e.0.0) es

  -- a session before that of a row is not that of a later row
  none_later : (a : A) (f : A × R) (es : List ((A × R) × V)) → o.cmp a f.0 ≡ Less → T (below_all (pairs o rests).cmp f es) → list_any (eq_by_cmp o.cmp a) (firsts es) ≡ false
  none_later a f [] lt h = refl
  none_later a f (g ∷ es) lt h =
      let apart : eq_by_cmp o.cmp a g.0.0 ≡ false =
      either (eq_by_cmp o.cmp a g.0.0)
      (λ t.
      let is = tied_same o a g.0.0 t in
      let back : o.cmp f.0 g.0.0 ≡ Greater = o.total.antisymm f.0 g.0.0 ∙ ap ordering_reverse (ap (λ x. o.cmp x f.0) (sym is) ∙ lt) in
      absurd (not_after (o.cmp f.0 g.0.0) (rests.cmp f.1 g.0.1) (first _ _ h) back))
      (λ t. t) in
      ap (λ b. b || list_any (eq_by_cmp o.cmp a) (firsts es)) apart ∙ none_later a f es lt (second _ _ h)

  one_more : (e : (A × R) × V) (es : List ((A × R) × V)) → T (is_sorted (pairs o rests).cmp (e ∷ es)) → size (set_of {o = o} (firsts (e ∷ es))) ≡ 1 + changes o (Some e.0.0) (firsts es)
  one_more e [] h = size_cons o e.0.0 []
  one_more e (f ∷ es) h =
      let a = e.0.0 in
      let b = f.0.0 in
      let rest = one_more f es (second _ _ h) in
      either (eq_by_cmp o.cmp a b)
      (λ t.
      size_cons o a (firsts (f ∷ es)) ∙ ap (λ w. cond (w || list_any (eq_by_cmp o.cmp a) (firsts es)) (size (set_of {o = o} (firsts (f ∷ es)))) (size (set_of {o = o} (firsts (f ∷ es))) + 1)) t
      ∙ rest ∙ ap (λ x. 1 + changes o (Some x) (firsts es)) (sym (tied_same o a b t)) ∙ ap (λ w. 1 + cond w (changes o (Some a) (firsts es)) (1 + changes o (Some b) (firsts es))) (sym t))
      (λ t.
      let less = before (o.cmp a b) (rests.cmp e.0.1 f.0.1) (first _ _ (first _ _ h)) t in
      let gone : (eq_by_cmp o.cmp a b || list_any (eq_by_cmp o.cmp a) (firsts es)) ≡ false = ap (λ w. w || list_any (eq_by_cmp o.cmp a) (firsts es)) t
      ∙ none_later a f.0 es less (first _ _ (second _ _ h)) in
      let more : size (set_of {o = o} (firsts (e ∷ f ∷ es))) ≡ size (set_of {o = o} (firsts (f ∷ es))) + 1 = size_cons o a (firsts (f ∷ es))
      ∙ ap (λ w. cond w (size (set_of {o = o} (firsts (f ∷ es)))) (size (set_of {o = o} (firsts (f ∷ es))) + 1)) gone in
      let change : changes o (Some a) (firsts (f ∷ es)) ≡ 1 + changes o (Some b) (firsts es) = ap (λ w. cond w (changes o (Some a) (firsts es)) (1 + changes o (Some b) (firsts es))) t in
      omega (arith, more, rest, change))

  pub all_changes : (es : List ((A × R) × V)) → T (is_sorted (pairs o rests).cmp es) → changes o None (firsts es) ≡ size (set_of {o = o} (firsts es))
  all_changes [] h = refl
  all_changes (e ∷ es) h = sym (one_more e es h)

module _ {F R : Type 0} (rests : Keys R) (key : F → Session × R) (cells : List (Cell F)) (rows : List ((Session × R) × ℕ)) (ix : IsIndex rests key cells rows) where
  abbrev own : Session → List (R × ℕ)
  own s = rows_under sessions rests s rows

  pub sorted_rows : T (is_sorted (fact_keys rests).cmp rows)
  sorted_rows = subst (λ es. T (is_sorted (fact_keys rests).cmp es)) (sym ix.is) ix.slots.sorted

  pub sorted_own : (s : Session) → T (is_sorted rests.cmp (own s))
  sorted_own s = sorted_under sessions rests s rows sorted_rows

  -- the rows of the facts
  pub live_are : live_of cells rows ≡ facts_by key (facts_in cells rows)
  live_are =
      let seen_rows : live_of cells rows ≡ (seen rests key live_in cells ix.slots).rows = ap (λ es. changed_rows (λ k s. live_in (slice_get cells s)) es) ix.is in
      seen_rows ∙ sym (facts_seen rests key cells rows ix)

  -- a session's facts
  pub facts_are : (s : Session) → live_of cells (own s) ≡ rows_under sessions rests s (facts_by key (facts_in cells rows))
  facts_are s = sym (under_live rests cells s rows) ∙ ap (rows_under sessions rests s) live_are

  value_of : (es : List (R × (F × ℕ))) (k : ℕ) (e : Option (F × ℕ)) → option_map (λ (e : R × (F × ℕ)). e.1) (slice_get es k) ≡ e
      → option_map (λ (e : F × ℕ). e.0) e ≡ option_map (λ (e : R × (F × ℕ)). e.1.0) (slice_get es k)
  value_of es k e is = ap (option_map (λ (e : F × ℕ). e.0)) (sym is) ∙ inner (slice_get es k)
    where
      inner : (o : Option (R × (F × ℕ))) → option_map (λ (e : F × ℕ). e.0) (option_map (λ (e : R × (F × ℕ)). e.1) o) ≡ option_map (λ (e : R × (F × ℕ)). e.1.0) o
      inner None = refl
      inner (Some x) = refl

  pub kth_fact : (s : Session) (k : ℕ) (e : Option (F × ℕ)) → option_map (λ (e : R × (F × ℕ)). e.1) (slice_get (live_of cells (own s)) k) ≡ e
      → option_map (λ (e : F × ℕ). e.0) e ≡ option_map (λ (e : R × (F × ℕ)). e.1.0) (slice_get (rows_under sessions rests s (facts_by key (facts_in cells rows))) k)
  kth_fact s k e is = value_of (live_of cells (own s)) k e is ∙ ap (λ es. option_map (λ (e : R × (F × ℕ)). e.1.0) (slice_get es k)) (facts_are s)

  -- and of those behind a rest
  pub next_fact : (s : Session) (r : R) (j : ℕ) (e : Option (F × ℕ)) → rows_behind rests r (own s) ≡ drop j (own s)
      → option_map (λ (e : R × (F × ℕ)). e.1) (slice_get (live_of cells (drop j (own s))) 0) ≡ e
      → option_map (λ (e : F × ℕ). e.0) e ≡ option_map (λ (e : R × (F × ℕ)). e.1.0) (slice_get (rows_behind rests r (rows_under sessions rests s (facts_by key (facts_in cells rows)))) 0)
  next_fact s r j e at is =
      value_of (live_of cells (drop j (own s))) 0 e is
      ∙ ap (λ es. option_map (λ (e : R × (F × ℕ)). e.1.0) (slice_get es 0)) (ap (live_of cells) (sym at) ∙ sym (behind_live rests cells r (own s)) ∙ ap (rows_behind rests r) (facts_are s))

  -- ---- where rows stand
  in_own : (s : Session) (es : List ((Session × R) × ℕ)) (i : ℕ) (e : R × ℕ) → slice_get (rows_under sessions rests s es) i ≡ Some e → (j : ℕ) × (slice_get es j ≡ Some ((s, e.0), e.1))
  in_own s [] i e at = cc
  in_own s (d ∷ ds) i e at = by (eq_by_cmp sessions.cmp s d.0.0) refl i at (λ n is. in_own s ds n e is)
    where
      by : (b : Bool) → eq_by_cmp sessions.cmp s d.0.0 ≡ b → (n : ℕ)
          → slice_get (each (λ (e : (Session × R) × ℕ). (e.0.1, e.1)) (cond b (d ∷ where_key (fact_keys rests).cmp (λ k. eq_by_cmp sessions.cmp s k.0) ds)
          (where_key (fact_keys rests).cmp (λ k. eq_by_cmp sessions.cmp s k.0) ds))) n ≡ Some e
          → ((m : ℕ) → slice_get (rows_under sessions rests s ds) m ≡ Some e → (j : ℕ) × (slice_get ds j ≡ Some ((s, e.0), e.1))) → (j : ℕ) × (slice_get (d ∷ ds) j ≡ Some ((s, e.0), e.1))
      by true tie zero is later =
          let one : ◌≡◌ {A = R × ℕ} (d.0.1, d.1) e = cc in
          let same : s ≡ d.0.0 = tied_same sessions s d.0.0 tie in
          (0, λ i. Some ((sym same i, (one i).0), (one i).1))
      by true tie (suc n) is later = let rest = later n is in (suc rest.0, rest.1)
      by false tie n is later = let rest = later n is in (suc rest.0, rest.1)

  pub own_row : (s : Session) (i : ℕ) (e : R × ℕ) → slice_get (own s) i ≡ Some e → get ix.slots (s, e.0) ≡ Some e.1
  own_row s i e at = let r = in_own s rows i e at in row_led rests key cells rows ix r.0 ((s, e.0), e.1) r.1

  pub are_slots : (s : Session) → AreSlots cells (own s)
  are_slots s i e at =
      let g = ix.linked.holds (s, e.0) e.1 (own_row s i e at) in
      value_within cells e.1 g.0 g.1

  abbrev Stands : R → ℕ → List (R × ℕ) → Type 0
  Stands r t es = (j : ℕ) × (slice_get es j ≡ Some (r, t))

  to_own : (s : Session) (r : R) (t : ℕ) (es : List ((Session × R) × ℕ)) (i : ℕ) → slice_get es i ≡ Some ((s, r), t) → Stands r t (rows_under sessions rests s es)
  to_own s r t [] i at = cc
  to_own s r t (d ∷ ds) zero at =
      let is : d ≡ ((s, r), t) = cc in
      (0, head (eq_by_cmp sessions.cmp s d.0.0) (ap (λ (z : (Session × R) × ℕ). eq_by_cmp sessions.cmp s z.0.0) is ∙ tied_self sessions s) ∙ one is)
    where
      first_row : (Session × R) × ℕ → R × ℕ
      first_row z = (z.0.1, z.1)

      one : d ≡ ((s, r), t) → Some (first_row d) ≡ Some (r, t)
      one is = ap (λ (z : (Session × R) × ℕ). Some (first_row z)) is

      head : (b : Bool) → b ≡ true → slice_get (each (λ (e : (Session × R) × ℕ). (e.0.1, e.1))
          (cond b (d ∷ where_key (fact_keys rests).cmp (λ k. eq_by_cmp sessions.cmp s k.0) ds) (where_key (fact_keys rests).cmp (λ k. eq_by_cmp sessions.cmp s k.0) ds))) 0 ≡ Some (first_row d)
      head true e = refl
      head false e = absurd (both_ways _ refl e)
  to_own s r t (d ∷ ds) (suc i) at = by (eq_by_cmp sessions.cmp s d.0.0) (to_own s r t ds i at)
    where
      by : (b : Bool) → Stands r t (rows_under sessions rests s ds)
          → Stands r t (each (λ (e : (Session × R) × ℕ). (e.0.1, e.1)) (cond b (d ∷ where_key (fact_keys rests).cmp (λ k. eq_by_cmp sessions.cmp s k.0) ds)
          (where_key (fact_keys rests).cmp (λ k. eq_by_cmp sessions.cmp s k.0) ds)))
      by true rest = (suc rest.0, rest.1)
      by false rest = rest

  -- the fact of a key stands in the slot of its row
  pub own_led : (s : Session) (r : R) (t : ℕ) (f : F) → value_in (slice_get cells t) ≡ Some f → key f ≡ (s, r) → (j : ℕ) × (slice_get (own s) j ≡ Some (r, t))
  own_led s r t f at is =
      let led_to : get ix.slots (s, r) ≡ Some t = ap (get ix.slots) (sym is) ∙ ix.linked.finds t f at in
      let i = got_at rows (subst (λ es. In ((s, r), t) es) (sym ix.is) (found_in (fact_keys rests) ix.slots (s, r) t led_to)) in
      to_own s r t rows i.0 i.1
    where
      got_at : (es : List ((Session × R) × ℕ)) → In ((s, r), t) es → (i : ℕ) × (slice_get es i ≡ Some ((s, r), t))
      got_at [] i = absurd i
      got_at (e ∷ es) (inl same) = (0, ap Some (sym same))
      got_at (e ∷ es) (inr i) = let rest = got_at es i in (suc rest.0, rest.1)

  -- ---- the sessions of facts
  full_of : {A : Type 0} (es : List A) → is_some (slice_get es 0) ≡ is_full es
  full_of [] = refl
  full_of (e ∷ es) = refl

  row_of_live : (es : List (R × ℕ)) → is_full (live_of cells es) ≡ true → is_full es ≡ true
  row_of_live [] e = absurd (both_ways _ refl e)
  row_of_live (x ∷ es) e = refl

  session_has : (q : Session) → has (kept (has_live rests cells rows) (sessions_of rows)) q ≡ has (sessions_in key (facts_in cells rows)) q
  session_has q =
      let live : has_live rests cells rows q ≡ is_full (live_of cells (own q)) = full_of (live_of cells (own q)) in
      let listed : each (λ e. (key e.0).0) (facts_in cells rows) ≡ each (λ (k : Session × R). k.0) (each (λ (e : (Session × R) × (F × ℕ)). e.0) (live_of cells rows)) =
      sym (ap (each (λ (k : Session × R). k.0)) (ap (each (λ (e : (Session × R) × (F × ℕ)). e.0)) live_are
      ∙ map-map (λ (e : (Session × R) × (F × ℕ)). e.0) (λ (e : F × ℕ). (key e.0, e)) (facts_in cells rows))
      ∙ map-map (λ (k : Session × R). k.0) (λ (e : F × ℕ). key e.0) (facts_in cells rows)) in
      let facts : has (sessions_in key (facts_in cells rows)) q ≡ is_full (live_of cells (own q)) =
      has-set_of sessions (each (λ e. (key e.0).0) (facts_in cells rows)) q ∙ ap (list_any (eq_by_cmp sessions.cmp q)) listed ∙ any_under rests q (live_of cells rows)
      ∙ ap is_full (under_live rests cells q rows) in
      let all : has (sessions_of rows) q ≡ is_full (own q) = has-set_of sessions (each (λ (k : Session × R). k.0) (each (λ (e : (Session × R) × ℕ). e.0) rows)) q ∙ any_under rests q rows in
      ap is_some (get-kept sessions (has_live rests cells rows) (sessions_of rows) q)
      ∙ either (is_full (live_of cells (own q)))
      (λ t. ap (λ b. is_some (cond b (get (sessions_of rows) q) None)) (live ∙ t) ∙ all ∙ row_of_live (own q) t ∙ sym t)
      (λ n. ap (λ b. is_some (cond b (get (sessions_of rows) q) None)) (live ∙ n) ∙ sym n)
      ∙ sym facts

  pub sessions_counted : size (kept (has_live rests cells rows) (sessions_of rows)) ≡ size (sessions_in key (facts_in cells rows))
  sessions_counted = ap size (same_set sessions (kept (has_live rests cells rows) (sessions_of rows)) (sessions_in key (facts_in cells rows)) session_has)
