-- What each change of a table does to its facts and its dead.
use Rattle.std.proofs.Common.{◌≡◌, ◌<◌, ℕ, true, false, not, List, [], ◌∷◌, length, set, map as each, Option, Some, None, refl, sym, ap, subst, ◌∙◌}
use Rattle.std.specs.Prelude.{slice_get, replicate}
use Rattle.std.specs.Ordering.{eq_by_cmp}
use Rattle.std.specs.FinMap.Entries.{find, put, where_key}
use Rattle.std.proofs.lemmas.Bool.{both_ways}
use Rattle.std.proofs.lemmas.List.{set-set}
use Rattle.rsvp_base.specs.Keys.{Keys}
use Rattle.rsvp_base.specs.Members.{In}
use Rattle.rsvp_base.specs.Table.{Table, get, put_in, without, empty}
use Rattle.rsvp_base.specs.declared.session.Session.{Session}
use Rattle.rsvp_base.proofs.Counts.{in_found}
use Rattle.rsvp_base.proofs.Fronts.{got_in}
use Rattle.rsvp_base.proofs.Tables.{then_do, without_absent}
use Rattle.soft_table.specs.declared.cell.Cell.{Cell}
use Rattle.soft_table.specs.declared.cell.Cell.TheVariants.{Free, Live, Due}
use Rattle.soft_table.specs.Cells.{aged, is_live}
use Rattle.soft_table.specs.Facts.{fact_keys, facts_by, dead_by}
use Rattle.soft_table.specs.Index.{value_in, live_in, due_in, facts_in, dead_in, IsLinked, IsIndex}
use Rattle.soft_table.proofs.PoolSlots.{set_read}
use Rattle.soft_table.proofs.Slots.{value_within, counts}
use Rattle.soft_table.proofs.Links.{seen, get-seen, seen_replaced, seen_taken, seen_new, linked_replaced, linked_taken, linked_new, linked_later, linked_none, linked_freed}
use Rattle.soft_table.proofs.Views.{facts_seen, dead_seen}

each_nil : {A B : Type 0} (f : A → B) (xs : List A) → each f xs ≡ [] → xs ≡ []
each_nil f [] e = refl
each_nil f (x ∷ xs) e = cc

values_of : {A K : Type 0} (key : A → K) (xs : List A) → each (λ (e : K × A). e.1) (each (λ x. (key x, x)) xs) ≡ xs
values_of key [] = refl
values_of key (x ∷ xs) = ap (λ ys. x ∷ ys) (values_of key xs)

pub not_live_none : {F : Type 0} (c : Option (Cell F)) → is_live c ≡ false → live_in c ≡ None
not_live_none None e = refl
not_live_none (Some Free) e = refl
not_live_none (Some (Live f left)) e = absurd (both_ways _ e refl)
not_live_none (Some (Due f)) e = refl

module _ {F R : Type 0} (rests : Keys R) (key : F → Session × R) where
  abbrev o : Keys (Session × R)
  o = fact_keys rests

  -- lists with the same facts under the same keys are one
  pub same_dead : (fs gs : List F) → dead_by key fs ≡ dead_by key gs → fs ≡ gs
  same_dead fs gs e = sym (values_of key fs) ∙ ap (each (λ (e : (Session × R) × F). e.1)) e ∙ values_of key gs

  pub same_facts : (fs gs : List (F × ℕ)) → facts_by key fs ≡ facts_by key gs → fs ≡ gs
  same_facts fs gs e = sym (values_of (λ (x : F × ℕ). key x.0) fs) ∙ ap (each (λ (e : (Session × R) × (F × ℕ)). e.1)) e ∙ values_of (λ (x : F × ℕ). key x.0) gs

  -- ---- no fact
  pub index_none : (n : ℕ) (cells : List (Cell F)) (rows : List ((Session × R) × ℕ)) → cells ≡ replicate {A = Cell F} n Free → rows ≡ [] → IsIndex rests key cells rows
  index_none n cells rows c r = record { slots = empty; is = r; linked = subst (λ cs. IsLinked rests key cs empty) (sym c) (linked_none rests key n) }

  pub index_freed : (old cells : List (Cell F)) (rows : List ((Session × R) × ℕ)) → cells ≡ each {A = Cell F} {B = Cell F} (λ c. Free) old → rows ≡ [] → IsIndex rests key cells rows
  index_freed old cells rows c r = record { slots = empty; is = r; linked = subst (λ cs. IsLinked rests key cs empty) (sym c) (linked_freed rests key old) }

  module _ (cells : List (Cell F)) (rows : List ((Session × R) × ℕ)) (ix : IsIndex rests key cells rows) where
    -- ---- what is found
    pub led : (k : Session × R) (w : Option ℕ) → find o.cmp k rows ≡ w → get ix.slots k ≡ w
    led k w at = ap (find o.cmp k) (sym ix.is) ∙ at

    -- the row of a key is its slot's
    pub row_led : (i : ℕ) (e : (Session × R) × ℕ) → slice_get rows i ≡ Some e → get ix.slots e.0 ≡ Some e.1
    row_led i e at = in_found o ix.slots e.0 e.1 (subst (λ es. In e es) ix.is (got_in rows i e at))

    -- a free slot has no row
    pub not_used : (t : ℕ) → slice_get cells t ≡ Some Free → (i : ℕ) (e : (Session × R) × ℕ) → slice_get rows i ≡ Some e → e.1 ≡ t → ⊥
    not_used t free i e at same =
        let g = ix.linked.holds e.0 e.1 (row_led i e at) in
        let none : None ≡ Some g.0 = ap value_in (sym free) ∙ ap (λ n. value_in (slice_get cells n)) (sym same) ∙ g.1 in
        cc

    pub within_slots : (k : Session × R) (t : ℕ) → get ix.slots k ≡ Some t → t < length cells
    within_slots k t at = let g = ix.linked.holds k t at in value_within cells t g.0 g.1

    pub found_fact : (k : Session × R) → find o.cmp k (facts_by key (facts_in cells rows)) ≡ then_do (get ix.slots k) (λ s. live_in (slice_get cells s))
    found_fact k = ap (find o.cmp k) (facts_seen rests key cells rows ix) ∙ get-seen rests key live_in cells ix.slots k

    pub found_dead : (k : Session × R) → find o.cmp k (dead_by key (dead_in cells rows)) ≡ then_do (get ix.slots k) (λ s. due_in (slice_get cells s))
    found_dead k = ap (find o.cmp k) (dead_seen rests key cells rows ix) ∙ get-seen rests key due_in cells ix.slots k

    pub fact_led : (k : Session × R) (t : ℕ) → get ix.slots k ≡ Some t → find o.cmp k (facts_by key (facts_in cells rows)) ≡ live_in (slice_get cells t)
    fact_led k t at = found_fact k ∙ ap (λ w. then_do w (λ s. live_in (slice_get cells s))) at

    pub no_fact_led : (k : Session × R) → get ix.slots k ≡ None → find o.cmp k (facts_by key (facts_in cells rows)) ≡ None
    no_fact_led k at = found_fact k ∙ ap (λ w. then_do w (λ s. live_in (slice_get cells s))) at

    -- where no dead fact waits, the slot of a key is live
    pub live_led : (k : Session × R) (t : ℕ) → get ix.slots k ≡ Some t → dead_in cells rows ≡ [] → is_live (slice_get cells t) ≡ true
    live_led k t at none =
        let g = ix.linked.holds k t at in
        by (slice_get cells t) g.1 (sym (found_dead k ∙ ap (λ w. then_do w (λ s. due_in (slice_get cells s))) at) ∙ ap (λ fs. find o.cmp k (dead_by key fs)) none)
      where
        by : (c : Option (Cell F)) → value_in c ≡ Some (ix.linked.holds k t at).0 → due_in c ≡ None → is_live c ≡ true
        by None v d = cc
        by (Some Free) v d = cc
        by (Some (Live f left)) v d = refl
        by (Some (Due f)) v d = cc

    pub nothing_gone : (k : Session × R) → find o.cmp k (facts_by key (facts_in cells rows)) ≡ None
        → facts_by key (facts_in cells rows) ≡ where_key o.cmp (λ x. not (eq_by_cmp o.cmp k x)) (facts_by key (facts_in cells rows))
    nothing_gone k none =
        let seen_rows = facts_seen rests key cells rows ix in
        let same = without_absent o (seen rests key live_in cells ix.slots) k (ap (find o.cmp k) (sym seen_rows) ∙ none) in
        seen_rows ∙ sym (ap (λ (t : Table (fact_keys rests) (F × ℕ)). t.rows) same) ∙ ap (where_key o.cmp (λ x. not (eq_by_cmp o.cmp k x))) (sym seen_rows)

    -- ---- a fact put
    pub record Puts (k : Session × R) (e : F × ℕ) (cells2 : List (Cell F)) (rows2 : List ((Session × R) × ℕ)) : Type 0 where
      pub index : IsIndex rests key cells2 rows2
      pub facts : facts_by key (facts_in cells2 rows2) ≡ put o.cmp k e (facts_by key (facts_in cells rows))
      pub dead : dead_in cells2 rows2 ≡ []

    pub puts_over : (k : Session × R) (t : ℕ) (old f : F) (was left : ℕ) (cells2 : List (Cell F)) → get ix.slots k ≡ Some t → dead_in cells rows ≡ [] → slice_get cells t ≡ Some (Live old was)
        → cells2 ≡ set cells t (Live f left) → key f ≡ k → Puts k (f, left) cells2 rows
    puts_over k t old f was left cells2 at none here is own =
        let linked = linked_replaced rests key cells ix.slots ix.linked k t at (Live f left) (Live old was) f here refl refl own in
        let ix2 : IsIndex rests key cells2 rows = record { slots = ix.slots; is = ix.is; linked = subst (λ cs. IsLinked rests key cs ix.slots) (sym is) linked } in
        record {
          index = ix2;
          facts = facts_seen rests key cells2 rows ix2 ∙ ap (λ cs. (seen rests key live_in cs ix.slots).rows) is
              ∙ ap (λ (t : Table (fact_keys rests) (F × ℕ)). t.rows) (seen_replaced rests key cells ix.slots ix.linked k t at (Live f left) live_in)
              ∙ ap (put o.cmp k (f, left)) (sym (facts_seen rests key cells rows ix));
          dead = each_nil (λ f. (key f, f)) (dead_in cells2 rows) (dead_seen rests key cells2 rows ix2 ∙ ap (λ cs. (seen rests key due_in cs ix.slots).rows) is
              ∙ ap (λ (t : Table (fact_keys rests) F). t.rows) (seen_replaced rests key cells ix.slots ix.linked k t at (Live f left) due_in)
              ∙ ap (where_key o.cmp (λ x. not (eq_by_cmp o.cmp k x))) (sym (dead_seen rests key cells rows ix) ∙ ap (dead_by key) none));
        }

    -- a live fact in place of a live one, whatever is dead
    pub record Replaces (k : Session × R) (e : F × ℕ) (cells2 : List (Cell F)) : Type 0 where
      pub index : IsIndex rests key cells2 rows
      pub facts : facts_by key (facts_in cells2 rows) ≡ put o.cmp k e (facts_by key (facts_in cells rows))
      pub dead : dead_in cells2 rows ≡ dead_in cells rows

    pub replaces : (k : Session × R) (t : ℕ) (old f : F) (left : ℕ) (cells2 : List (Cell F)) → get ix.slots k ≡ Some t → slice_get cells t ≡ Some (Live old left) → cells2 ≡ set cells t (Live f left)
        → key f ≡ k → Replaces k (f, left) cells2
    replaces k t old f left cells2 at here is own =
        let linked = linked_replaced rests key cells ix.slots ix.linked k t at (Live f left) (Live old left) f here refl refl own in
        let ix2 : IsIndex rests key cells2 rows = record { slots = ix.slots; is = ix.is; linked = subst (λ cs. IsLinked rests key cs ix.slots) (sym is) linked } in
        record {
          index = ix2;
          facts = facts_seen rests key cells2 rows ix2 ∙ ap (λ cs. (seen rests key live_in cs ix.slots).rows) is
              ∙ ap (λ (t : Table (fact_keys rests) (F × ℕ)). t.rows) (seen_replaced rests key cells ix.slots ix.linked k t at (Live f left) live_in)
              ∙ ap (put o.cmp k (f, left)) (sym (facts_seen rests key cells rows ix));
          dead = same_dead (dead_in cells2 rows) (dead_in cells rows) (dead_seen rests key cells2 rows ix2 ∙ ap (λ cs. (seen rests key due_in cs ix.slots).rows) is
              ∙ ap (λ (t : Table (fact_keys rests) F). t.rows) (seen_replaced rests key cells ix.slots ix.linked k t at (Live f left) due_in)
              ∙ ap (λ (t : Table (fact_keys rests) F). t.rows) (without_absent o (seen rests key due_in cells ix.slots) k
              (get-seen rests key due_in cells ix.slots k ∙ ap (λ w. then_do w (λ s. due_in (slice_get cells s))) at ∙ ap due_in here))
              ∙ sym (dead_seen rests key cells rows ix));
        }

    pub puts_new : (k : Session × R) (t : ℕ) (f : F) (left : ℕ) (cells2 : List (Cell F)) (rows2 : List ((Session × R) × ℕ)) → find o.cmp k rows ≡ None → dead_in cells rows ≡ []
        → slice_get cells t ≡ Some Free → cells2 ≡ set cells t (Live f left)
        → rows2 ≡ put o.cmp k t rows → key f ≡ k → Puts k (f, left) cells2 rows2
    puts_new k t f left cells2 rows2 lacks none free is rows_is own =
        let new = led k None lacks in
        let linked = linked_new rests key cells ix.slots ix.linked k t new free (Live f left) f refl refl own in
        let listed : rows2 ≡ (put_in ix.slots k t).rows = rows_is ∙ ap (put o.cmp k t) ix.is in
        let ix2 : IsIndex rests key cells2 rows2 = record { slots = put_in ix.slots k t; is = listed; linked = subst (λ cs. IsLinked rests key cs (put_in ix.slots k t)) (sym is) linked } in
        record {
          index = ix2;
          facts = facts_seen rests key cells2 rows2 ix2 ∙ ap (λ cs. (seen rests key live_in cs (put_in ix.slots k t)).rows) is
              ∙ ap (λ (t : Table (fact_keys rests) (F × ℕ)). t.rows) (seen_new rests key cells ix.slots ix.linked k t new free (Live f left) live_in)
              ∙ ap (put o.cmp k (f, left)) (sym (facts_seen rests key cells rows ix));
          dead = each_nil (λ f. (key f, f)) (dead_in cells2 rows2) (dead_seen rests key cells2 rows2 ix2 ∙ ap (λ cs. (seen rests key due_in cs (put_in ix.slots k t)).rows) is
              ∙ ap (λ (t : Table (fact_keys rests) F). t.rows) (seen_new rests key cells ix.slots ix.linked k t new free (Live f left) due_in)
              ∙ ap (where_key o.cmp (λ x. not (eq_by_cmp o.cmp k x))) (sym (dead_seen rests key cells rows ix) ∙ ap (dead_by key) none));
        }

    -- ---- a fact taken out, live or dead
    pub record Takes (k : Session × R) (t : ℕ) (cells2 : List (Cell F)) (rows2 : List ((Session × R) × ℕ)) : Type 0 where
      pub index : IsIndex rests key cells2 rows2
      pub facts : facts_by key (facts_in cells2 rows2) ≡ where_key o.cmp (λ x. not (eq_by_cmp o.cmp k x)) (facts_by key (facts_in cells rows))
      pub dead : dead_by key (dead_in cells2 rows2) ≡ where_key o.cmp (λ x. not (eq_by_cmp o.cmp k x)) (dead_by key (dead_in cells rows))
      pub no_fact : live_in (slice_get cells t) ≡ None → facts_in cells2 rows2 ≡ facts_in cells rows
      pub no_dead : due_in (slice_get cells t) ≡ None → dead_in cells2 rows2 ≡ dead_in cells rows

    pub takes : (k : Session × R) (t : ℕ) (old : Cell F) (cells2 : List (Cell F)) (rows2 : List ((Session × R) × ℕ)) → get ix.slots k ≡ Some t → slice_get cells t ≡ Some old → counts old ≡ 1
        → cells2 ≡ set cells t Free
        → rows2 ≡ where_key o.cmp (λ x. not (eq_by_cmp o.cmp k x)) rows → Takes k t cells2 rows2
    takes k t old cells2 rows2 at here count is rows_is =
        let linked = linked_taken rests key cells ix.slots ix.linked k t at Free old here count refl in
        let listed : rows2 ≡ (without ix.slots k).rows = rows_is ∙ ap (where_key o.cmp (λ x. not (eq_by_cmp o.cmp k x))) ix.is in
        let ix2 : IsIndex rests key cells2 rows2 = record { slots = without ix.slots k; is = listed; linked = subst (λ cs. IsLinked rests key cs (without ix.slots k)) (sym is) linked } in
        let live = facts_seen rests key cells2 rows2 ix2 ∙ ap (λ cs. (seen rests key live_in cs (without ix.slots k)).rows) is
        ∙ ap (λ (t : Table (fact_keys rests) (F × ℕ)). t.rows) (seen_taken rests key cells ix.slots ix.linked k t at Free live_in) in
        let due = dead_seen rests key cells2 rows2 ix2 ∙ ap (λ cs. (seen rests key due_in cs (without ix.slots k)).rows) is
        ∙ ap (λ (t : Table (fact_keys rests) F). t.rows) (seen_taken rests key cells ix.slots ix.linked k t at Free due_in) in
        record {
          index = ix2;
          facts = live ∙ ap (where_key o.cmp (λ x. not (eq_by_cmp o.cmp k x))) (sym (facts_seen rests key cells rows ix));
          dead = due ∙ ap (where_key o.cmp (λ x. not (eq_by_cmp o.cmp k x))) (sym (dead_seen rests key cells rows ix));
          no_fact = λ none. same_facts (facts_in cells2 rows2) (facts_in cells rows) (live
              ∙ ap (λ (t : Table (fact_keys rests) (F × ℕ)). t.rows) (without_absent o (seen rests key live_in cells ix.slots) k
              (get-seen rests key live_in cells ix.slots k ∙ ap (λ w. then_do w (λ s. live_in (slice_get cells s))) at ∙ none))
              ∙ sym (facts_seen rests key cells rows ix));
          no_dead = λ none. same_dead (dead_in cells2 rows2) (dead_in cells rows) (due
              ∙ ap (λ (t : Table (fact_keys rests) F). t.rows) (without_absent o (seen rests key due_in cells ix.slots) k
              (get-seen rests key due_in cells ix.slots k ∙ ap (λ w. then_do w (λ s. due_in (slice_get cells s))) at ∙ none))
              ∙ sym (dead_seen rests key cells rows ix));
        }

    -- ---- time
    pub index_later : (ms : ℕ) (cells2 : List (Cell F)) → cells2 ≡ each (aged ms) cells → IsIndex rests key cells2 rows
    index_later ms cells2 is = record { slots = ix.slots; is = ix.is; linked = subst (λ cs. IsLinked rests key cs ix.slots) (sym is) (linked_later rests key cells ix.slots ix.linked ms) }

-- ---- cells set twice, and counted
pub set_over : {F : Type 0} (cells cells1 cells2 : List (Cell F)) (t was : ℕ) (f v : F) (w left : ℕ) → t < length cells → cells1 ≡ set cells t (Live f was) → slice_get cells1 t ≡ Some (Live v w)
    → cells2 ≡ set cells1 t (Live v left) → cells2 ≡ set cells t (Live f left)
set_over cells cells1 cells2 t was f v w left lt one at two =
    let same : Some (Live f was) ≡ Some (Live v w) = sym (set_read cells t (Live f was) lt) ∙ ap (λ cs. slice_get cs t) (sym one) ∙ at in
    let is : f ≡ v = cc in
    two ∙ ap (λ x. set cells1 t (Live x left)) (sym is) ∙ ap (λ cs. set cs t (Live f left)) one ∙ set-set cells t (Live f was) (Live f left)

pub live_again : {F : Type 0} (cells cells1 : List (Cell F)) (t was : ℕ) (f : F) → t < length cells → cells1 ≡ set cells t (Live f was) → is_live (slice_get cells1 t) ≡ true
live_again cells cells1 t was f lt one = ap (λ cs. is_live (slice_get cs t)) one ∙ ap is_live (set_read cells t (Live f was) lt)
