-- What is seen of an index: the facts by their keys, in order.
use Rattle.std.proofs.Common.{◌≡◌, ◌+◌, ℕ, suc, T, List, [], ◌∷◌, length, map as each, Option, Some, None, refl, sym, ap, subst, ◌∙◌, arith, inl, inr}
use Rattle.std.specs.Prelude.{slice_get}
use Rattle.std.specs.List.{filter_map, cons_option}
use Rattle.std.specs.FinMap.Entries.{is_sorted, find}
use Rattle.rsvp_base.specs.Keys.{Keys}
use Rattle.rsvp_base.specs.Members.{In}
use Rattle.rsvp_base.specs.Table.{Table, get, size, changed_rows, kept_row}
use Rattle.rsvp_base.specs.declared.session.Session.{Session}
use Rattle.rsvp_base.proofs.Counts.{in_found}
use Rattle.rsvp_base.proofs.Tables.{holds, then_do}
use Rattle.soft_table.specs.declared.cell.Cell.{Cell}
use Rattle.soft_table.specs.declared.cell.Cell.TheVariants.{Free, Live, Due}
use Rattle.soft_table.specs.Facts.{fact_keys, facts_by, dead_by, IsInOrder, lives_on, dies}
use Rattle.soft_table.specs.Index.{value_in, live_in, due_in, used, facts_in, dead_in, IsLinked, IsIndex}
use Rattle.soft_table.proofs.Slots.{no_due_in, none_due_if, live_later, due_later}
use Rattle.soft_table.proofs.Links.{seen, get-seen}
use Rattle.soft_table.specs.Cells.{aged, NoneDue}
use Rattle.std.proofs.lemmas.List.{length-map}

-- ---- rows that are dropped or have another value
module _ {K X Y : Type 0} (f : K → X → Option Y) where
  -- where the values have their keys in them
  keyed_rows : (own : Y → K) (es : List (K × X)) → ((k : K) (x : X) (y : Y) → In (k, x) es → f k x ≡ Some y → own y ≡ k)
      → each (λ y. (own y, y)) (each (λ (e : K × Y). e.1) (changed_rows f es)) ≡ changed_rows f es
  keyed_rows own [] h = refl
  keyed_rows own (e ∷ es) h = by (f e.0 e.1) (λ y is. h e.0 e.1 y (inl refl) is) (keyed_rows own es (λ k x y i is. h k x y (inr i) is))
    where
      by : (w : Option Y) → ((y : Y) → w ≡ Some y → own y ≡ e.0) → each (λ y. (own y, y)) (each (λ (e : K × Y). e.1) (changed_rows f es)) ≡ changed_rows f es
          → each (λ y. (own y, y)) (each (λ (e : K × Y). e.1) (kept_row e.0 w (changed_rows f es))) ≡ kept_row e.0 w (changed_rows f es)
      by None mine rest = rest
      by (Some y) mine rest = λ i. (mine y refl i, y) ∷ rest i

  -- a change after a change, by the values
  changed_twice : {Z : Type 0} (g : K → X → Option Z) (h : Y → Option Z) (es : List (K × X)) → ((k : K) (x : X) → g k x ≡ then_do (f k x) h)
      → each (λ (e : K × Z). e.1) (changed_rows g es) ≡ filter_map h (each (λ (e : K × Y). e.1) (changed_rows f es))
  changed_twice {Z} g h [] both = refl
  changed_twice {Z} g h (e ∷ es) both = by (f e.0 e.1) (g e.0 e.1) (both e.0 e.1) (changed_twice g h es both)
    where
      by : (w : Option Y) (z : Option Z) → z ≡ then_do w h → each (λ (e : K × Z). e.1) (changed_rows g es) ≡ filter_map h (each (λ (e : K × Y). e.1) (changed_rows f es))
          → each (λ (e : K × Z). e.1) (kept_row e.0 z (changed_rows g es)) ≡ filter_map h (each (λ (e : K × Y). e.1) (kept_row e.0 w (changed_rows f es)))
      by None z is rest = ap (λ y. each (λ (e : K × Z). e.1) (kept_row e.0 y (changed_rows g es))) is ∙ rest
      by (Some y) z is rest = last z ∙ ap (λ v. cons_option v (filter_map h (each (λ (e : K × Y). e.1) (changed_rows f es)))) is
        where
          last : (v : Option Z) → each (λ (e : K × Z). e.1) (kept_row e.0 v (changed_rows g es)) ≡ cons_option v (filter_map h (each (λ (e : K × Y). e.1) (changed_rows f es)))
          last None = rest
          last (Some v) = ap (λ vs. v ∷ vs) rest

  -- each row is kept by one of two changes
  kept_apart : {Z : Type 0} (g : K → X → Option Z) (es : List (K × X)) → ((k : K) (x : X) → In (k, x) es → length (kept_row k (f k x) []) + length (kept_row k (g k x) []) ≡ 1)
      → length (changed_rows f es) + length (changed_rows g es) ≡ length es
  kept_apart {Z} g [] one = refl
  kept_apart {Z} g (e ∷ es) one = by (f e.0 e.1) (g e.0 e.1) (one e.0 e.1 (inl refl)) (kept_apart g es (λ k x i. one k x (inr i)))
    where
      by : (w : Option Y) (z : Option Z) → length (kept_row e.0 w []) + length (kept_row e.0 z []) ≡ 1 → length (changed_rows f es) + length (changed_rows g es) ≡ length es
          → length (kept_row e.0 w (changed_rows f es)) + length (kept_row e.0 z (changed_rows g es)) ≡ suc (length es)
      by None None one rest = absurd (omega arith)
      by None (Some z) one rest = omega arith
      by (Some y) None one rest = omega arith
      by (Some y) (Some z) one rest = absurd (omega arith)

module _ {F R : Type 0} (rests : Keys R) (key : F → Session × R) (cells : List (Cell F)) where
  abbrev o : Keys (Session × R)
  o = fact_keys rests

  live_value : (c : Option (Cell F)) (e : F × ℕ) → live_in c ≡ Some e → value_in c ≡ Some e.0
  live_value None e is = cc
  live_value (Some Free) e is = cc
  live_value (Some (Live f left)) e is = let same : (f, left) ≡ e = cc in ap (λ (x : F × ℕ). Some x.0) same
  live_value (Some (Due f)) e is = cc

  due_value : (c : Option (Cell F)) (f : F) → due_in c ≡ Some f → value_in c ≡ Some f
  due_value None f is = cc
  due_value (Some Free) f is = cc
  due_value (Some (Live g left)) f is = cc
  due_value (Some (Due g)) f is = is

  module _ (m : Table (fact_keys rests) ℕ) (linked : IsLinked rests key cells m) where
    own_key : (k : Session × R) (s : ℕ) (f : F) → In (k, s) m.rows → value_in (slice_get cells s) ≡ Some f → key f ≡ k
    own_key k s f i at =
        let g = linked.holds k s (in_found o m k s i) in
        let one : Some f ≡ Some g.0 = sym at ∙ g.1 in
        let is : f ≡ g.0 = cc in
        ap key is ∙ g.2

    live_keyed : facts_by key (each (λ (e : (Session × R) × (F × ℕ)). e.1) (seen rests key live_in cells m).rows) ≡ (seen rests key live_in cells m).rows
    live_keyed = keyed_rows (λ k s. live_in (slice_get cells s)) (λ e. key e.0) m.rows (λ k s e i is. own_key k s e.0 i (live_value (slice_get cells s) e is))

    due_keyed : dead_by key (each (λ (e : (Session × R) × F). e.1) (seen rests key due_in cells m).rows) ≡ (seen rests key due_in cells m).rows
    due_keyed = keyed_rows (λ k s. due_in (slice_get cells s)) key m.rows (λ k s f i is. own_key k s f i (due_value (slice_get cells s) f is))

    one_or_other : (c : Option (Cell F)) (k : Session × R) (f : F) → value_in c ≡ Some f → length (kept_row k (live_in c) []) + length (kept_row k (due_in c) []) ≡ 1
    one_or_other None k f e = cc
    one_or_other (Some Free) k f e = cc
    one_or_other (Some (Live g left)) k f e = omega arith
    one_or_other (Some (Due g)) k f e = omega arith

    live_and_due : size (seen rests key live_in cells m) + size (seen rests key due_in cells m) ≡ size m
    live_and_due = kept_apart (λ (k : Session × R) s. live_in (slice_get cells s)) (λ k s. due_in (slice_get cells s)) m.rows
        (λ k s i. let g = linked.holds k s (in_found o m k s i) in one_or_other (slice_get cells s) k g.0 g.1)

  module _ (rows : List ((Session × R) × ℕ)) (ix : IsIndex rests key cells rows) where
    -- the facts under their keys are what the keys lead to
    pub facts_seen : facts_by key (facts_in cells rows) ≡ (seen rests key live_in cells ix.slots).rows
    facts_seen = ap (λ es. facts_by key (each (λ (e : (Session × R) × (F × ℕ)). e.1) (changed_rows (λ k s. live_in (slice_get cells s)) es))) ix.is ∙ live_keyed ix.slots ix.linked

    pub dead_seen : dead_by key (dead_in cells rows) ≡ (seen rests key due_in cells ix.slots).rows
    dead_seen = ap (λ es. dead_by key (each (λ (e : (Session × R) × F). e.1) (changed_rows (λ k s. due_in (slice_get cells s)) es))) ix.is ∙ due_keyed ix.slots ix.linked

    pub in_order : (n : ℕ) → IsInOrder rests key (record { facts = facts_in cells rows; dead = dead_in cells rows; room = n })
    in_order n = (
      holds _ (subst (λ es. T (is_sorted o.cmp es)) (sym facts_seen) (seen rests key live_in cells ix.slots).sorted),
      holds _ (subst (λ es. T (is_sorted o.cmp es)) (sym dead_seen) (seen rests key due_in cells ix.slots).sorted),
    )

    pub size_facts : length (facts_in cells rows) ≡ size (seen rests key live_in cells ix.slots)
    size_facts = sym (length-map (facts_in cells rows) (λ e. (key e.0, e))) ∙ ap length facts_seen

    pub size_dead : length (dead_in cells rows) ≡ size (seen rests key due_in cells ix.slots)
    size_dead = sym (length-map (dead_in cells rows) (λ f. (key f, f))) ∙ ap length dead_seen

    -- the facts and the dead together are as many as the slots used
    pub all_counted : length (facts_in cells rows) + length (dead_in cells rows) ≡ used cells
    all_counted = omega (arith, size_facts, size_dead, live_and_due ix.slots ix.linked, ix.linked.each)

    pub count_rows : length rows ≡ used cells
    count_rows = omega (arith, ap length ix.is, ix.linked.each)

    -- where no dead fact waits, no slot is due, and the other way round
    pub none_waits : dead_in cells rows ≡ [] → NoneDue cells
    none_waits none =
        none_due_if cells (λ s f at.
        let led : get ix.slots (key f) ≡ Some s = ix.linked.finds s f (ap value_in at) in
        let found : get (seen rests key due_in cells ix.slots) (key f) ≡ Some f = get-seen rests key due_in cells ix.slots (key f) ∙ ap (λ w. then_do w (λ n. due_in (slice_get cells n))) led
        ∙ ap due_in at in
        let gone : Some f ≡ None = sym found ∙ ap (find o.cmp (key f)) (sym dead_seen ∙ ap (dead_by key) none) in
        cc)

    none_left : (es : List ((Session × R) × ℕ)) → ((s : ℕ) → due_in (slice_get cells s) ≡ None) → changed_rows (λ k s. due_in (slice_get cells s)) es ≡ []
    none_left [] none = refl
    none_left (e ∷ es) none = ap (λ w. kept_row e.0 w (changed_rows (λ k s. due_in (slice_get cells s)) es)) (none e.1) ∙ none_left es none

    pub none_dead : NoneDue cells → dead_in cells rows ≡ []
    none_dead none = ap (each (λ (e : (Session × R) × F). e.1)) (none_left rows (λ s. no_due_in cells s none))

-- ---- time, by the values
module _ {F R : Type 0} (ms : ℕ) (cells : List (Cell F)) (rows : List ((Session × R) × ℕ)) where
  pub facts_later : facts_in (each (aged ms) cells) rows ≡ filter_map (lives_on ms) (facts_in cells rows)
  facts_later = changed_twice (λ k s. live_in (slice_get cells s)) (λ k s. live_in (slice_get (each (aged ms) cells) s)) (lives_on ms) rows (λ k s. live_later ms cells s)

  pub dead_later : NoneDue cells → dead_in (each (aged ms) cells) rows ≡ filter_map (dies ms) (facts_in cells rows)
  dead_later none = changed_twice (λ k s. live_in (slice_get cells s)) (λ k s. due_in (slice_get (each (aged ms) cells) s)) (dies ms) rows (λ k s. due_later ms cells s none)
