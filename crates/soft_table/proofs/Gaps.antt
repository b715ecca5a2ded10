-- Where a search begins, and where a row would go.
use Rattle.std.proofs.Common.{◌≡◌, ℕ, false, T, List, Option, Some, None, refl, sym, ap, subst, ◌∙◌, arith, inl, inr}
use Rattle.std.specs.Prelude.{slice_get, Result, Ok, Err, IfOk, IfErr}
use Rattle.std.specs.Ordering.{is_eq, is_lt, is_gt}
use Rattle.std.specs.declared.cmp.Ordering.{Ordering}
use Rattle.std.specs.declared.cmp.Ordering.TheVariants.{Less, Equal, Greater}
use Rattle.std.specs.FinMap.Entries.{find, is_sorted}
use Rattle.std.proofs.lemmas.Bool.{both_ways}
use Rattle.std.proofs.lemmas.Option.{slice_get_within}
use Rattle.rsvp_base.specs.Keys.{Keys}
use Rattle.rsvp_base.specs.declared.session.Session.{Session}
use Rattle.soft_table.specs.declared.session_lists.Gap.{Gap}
use Rattle.soft_table.specs.Lists.{AreHeld, IsStart, IsRow, IsGap, IsGapIn, IsFrom, row_keys, rows_of, slot_of}
use Rattle.soft_table.proofs.Held.{AreFull, length_rows, row_at, row_back, no_row, nothing_at, nothing_past}
use Rattle.soft_table.proofs.Found.{is_row, is_gap, is_end, found_slot, found_none}
use Rattle.soft_table.proofs.Firsts.{stopped, at_end}
use Rattle.soft_table.proofs.Under.{in_order}

module _ {R : Type 0} (rests : Keys R) (keys : List (Option (Session × R))) (slots : List ℕ) (full : AreFull keys slots) (up : T (is_sorted (row_keys rests).cmp (rows_of keys slots)))
    (key : Session × R) where
  -- a row that is not behind the key
  start_from : (q : Session × R) (s j : ℕ) → slice_get slots j ≡ Some s → slice_get keys s ≡ Some (Some q) → is_gt ((row_keys rests).cmp q key) ≡ false → IsStart rests keys slots key (Some s)
  start_from q s j at is not_behind =
      let o = row_keys rests in
      let here = row_at keys slots j s q full at is in
      record {
        place = j;
        within = let lt = slice_get_within slots j s at in omega (arith, lt);
        is = at;
        before = λ i e lt e_at. let under = in_order o (rows_of keys slots) i j e (q, s) up lt e_at here in by e.0 under (o.cmp q key) refl;
      }
    where
      by : (d : Session × R) → (row_keys rests).cmp d q ≡ Less → (v : Ordering) → (row_keys rests).cmp q key ≡ v → (row_keys rests).cmp d key ≡ Less
      by d under Less v_is = (row_keys rests).total.trans d q key under v_is
      by d under Equal v_is = ap ((row_keys rests).cmp d) (sym ((row_keys rests).same q key v_is)) ∙ under
      by d under Greater v_is = absurd (both_ways _ not_behind (ap is_gt v_is))

  pub starts : (slot at : ℕ) → IsStart rests keys slots key (Some slot) → AreHeld keys slots → IsFrom rests keys key slot at → IsStart rests keys slots key (Some at)
  starts slot at w held (inl e) = subst (λ n. IsStart rests keys slots key (Some n)) (sym e) w
  starts slot at w held (inr up_to) = let there = held at up_to.0 up_to.1 in start_from up_to.0 at there.0 there.1 up_to.1 up_to.2

  -- where a walk ends
  pub ends_at : (s : ℕ) (k : Session × R) → IsStart rests keys slots key (Some s) → slice_get keys s ≡ Some (Some k) → (row_keys rests).cmp k key ≡ Equal → IsRow rests keys slots key s
  ends_at s k w k_is e = is_row rests keys slots full up key s k (stopped rests keys slots full key (Some s) w s k refl k_is (ap is_lt e)) k_is (ap is_eq e)

  pub ends_before : (s : ℕ) (k : Session × R) → IsStart rests keys slots key (Some s) → slice_get keys s ≡ Some (Some k) → (row_keys rests).cmp k key ≡ Greater → IsGap rests keys slots key (Some s)
  ends_before s k w k_is e = is_gap rests keys slots full up key s k (stopped rests keys slots full key (Some s) w s k refl k_is (ap is_lt e)) k_is (ap is_eq e)

  pub ends : IsStart rests keys slots key None → IsGap rests keys slots key None
  ends w = is_end rests keys slots full up key (at_end rests keys slots full key None w refl)

module _ {R : Type 0} (rests : Keys R) (keys : List (Option (Session × R))) (slots : List ℕ) (full : AreFull keys slots) (k : Session × R) where
  slot_there : (j : ℕ) (o : Option ℕ) → slice_get slots j ≡ o → slot_of (slice_get (rows_of keys slots) j) ≡ o
  slot_there j None at = ap slot_of (no_row keys slots j full at)
  slot_there j (Some s) at = let q = full j s at in ap slot_of (row_at keys slots j s q.0 full at q.1)

  slot_back : (j : ℕ) (o : Option ((Session × R) × ℕ)) → slice_get (rows_of keys slots) j ≡ o → slice_get slots j ≡ slot_of o
  slot_back j None at = nothing_at slots j (omega (arith, length_rows keys slots full, nothing_past (rows_of keys slots) j at))
  slot_back j (Some e) at = (row_back keys slots j e full at).0

  pub gap_in : (gap : Gap) → IsGap rests keys slots k gap.behind → IsGapIn rests (rows_of keys slots) k gap
  gap_in gap w = record {
    place = w.place.start.place;
    is = slot_there w.place.start.place gap.behind w.place.start.is;
    before = w.place.start.before;
    here = w.place.here;
    lacks = w.lacks;
    absent = found_none rests keys slots full k gap.behind w;
  }

  pub gap_of : (gap : Gap) → IsGapIn rests (rows_of keys slots) k gap → IsGap rests keys slots k gap.behind
  gap_of gap g = record {
    place = record {
      start = record {
        place = g.place;
        within = omega (arith, g.lacks.within, length_rows keys slots full);
        is = slot_back g.place (slice_get (rows_of keys slots) g.place) refl ∙ g.is;
        before = g.before;
      };
      here = g.here;
    };
    lacks = g.lacks;
  }

  -- as contracts see what a search answers
  module _ (rows : List ((Session × R) × ℕ)) (are : rows_of keys slots ≡ rows) where
    pub all_rows : (r : Result ℕ Gap) → IfOk r (λ s. IsRow rests keys slots k s) → IfOk r (λ s. find (row_keys rests).cmp k rows ≡ Some s)
    all_rows (Ok s) w = ap (find (row_keys rests).cmp k) (sym are) ∙ found_slot rests keys slots full k s w
    all_rows (Err gap) w = tt

    pub all_gaps : (r : Result ℕ Gap) → IfErr r (λ gap. IsGap rests keys slots k gap.behind) → IfErr r (λ gap. IsGapIn rests rows k gap)
    all_gaps (Ok s) w = tt
    all_gaps (Err gap) w = subst (λ es. IsGapIn rests es k gap) are (gap_in gap w)
