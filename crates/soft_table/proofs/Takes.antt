-- The lists after a row was taken out.
use Rattle.std.proofs.Common.{◌≡◌, ◌<◌, ◌+◌, ℕ, zero, suc, Bool, true, false, cond, not, T, List, [], ◌∷◌, length, drop, map as each, Option, Some, None, refl, sym, ap, subst, ◌∙◌, arith}
use Rattle.std.specs.Prelude.{slice_get, nat_eq}
use Rattle.std.specs.List.{remove}
use Rattle.std.specs.Option.{option_map}
use Rattle.std.specs.Ordering.{eq_by_cmp, is_eq, ordering_then, ordering_reverse}
use Rattle.std.specs.declared.cmp.Ordering.{Ordering}
use Rattle.std.specs.declared.cmp.Ordering.TheVariants.{Less, Greater}
use Rattle.std.specs.FinMap.Entries.{find, where_key, is_sorted, is_sorted-put, is_sorted-where_key}
use Rattle.std.proofs.lemmas.Bool.{eq-eqb, eqb-true, both_ways}
use Rattle.std.proofs.lemmas.List.Edits.{length-remove}
use Rattle.std.proofs.lemmas.Option.{slice_get_within}
use Rattle.rsvp_base.specs.Keys.{Keys}
use Rattle.rsvp_base.specs.Orders.{sessions}
use Rattle.rsvp_base.specs.Rows.{table_of}
use Rattle.rsvp_base.specs.Table.{Table, first, second, passes}
use Rattle.rsvp_base.specs.Under.{rows_under, sorted_under}
use Rattle.rsvp_base.specs.declared.session.Session.{Session}
use Rattle.rsvp_base.proofs.Counts.{in_found}
use Rattle.rsvp_base.proofs.Fronts.{got_in}
use Rattle.rsvp_base.proofs.Rows.{each_itself}
use Rattle.rsvp_base.proofs.Tables.{either, holds, tied_same, tied_self, get-put_in, get-without, none_above, without_absent}
use Rattle.rsvp_base.proofs.UnderLaws.{under-without_same, under-without_other}
use Rattle.soft_table.specs.declared.heads.Head.{Head}
use Rattle.soft_table.specs.Lists.{AreLists, IsRow, row_keys, first_of, head_row, rows_of, led, is_first, next_of, of_session, key_of_session}
use Rattle.soft_table.proofs.Held.{AreFull, length_rows, row_at, row_back, no_row, rows_removed, full_if}
use Rattle.soft_table.proofs.Firsts.{IsFirst, first_found, some_first, under_same, under_other, first_same, first_other, below_in, then_less}

inner : {K : Type 0} (x y : K) → Some (Some x) ≡ Some (Some y) → x ≡ y
inner x y e = let one : Some x ≡ Some y = cc in cc

-- the slot of the row at a place, where it is of this session
pub next_is : {R : Type 0} (keys : List (Option (Session × R))) (slots : List ℕ) (s : Session) → AreFull keys slots → (j : ℕ)
    → next_of s (slice_get (rows_of keys slots) j) ≡ of_session keys s (slice_get slots j)
next_is keys slots s full j = by (slice_get slots j) refl
  where
    by : (o : Option ℕ) → slice_get slots j ≡ o → next_of s (slice_get (rows_of keys slots) j) ≡ of_session keys s o
    by None e = ap (next_of s) (no_row keys slots j full e)
    by (Some n) e =
        let k = full j n e in
        ap (next_of s) (row_at keys slots j n k.0 full e k.1) ∙ sym (ap (key_of_session s n) k.1)

greater_not_less : (w v : Ordering) → ordering_then (ordering_reverse w) v ≡ Less → w ≡ Less → ⊥
greater_not_less w v e is = let z : Greater ≡ Less = ap (λ x. ordering_then (ordering_reverse x) v) (sym is) ∙ e in cc

module _ {R : Type 0} (rests : Keys R) (s : Session) where
  abbrev Row : Type 0
  Row = (Session × R) × ℕ

  -- behind a row of a later session there is none of this
  pub none_later : (d : Row) (ds : List Row) → T (is_sorted (row_keys rests).cmp (d ∷ ds)) → sessions.cmp s d.0.0 ≡ Less → first_of rests s ds ≡ None
  none_later d ds up over = by (first_of rests s ds) refl
    where
      by : (o : Option ℕ) → first_of rests s ds ≡ o → o ≡ None
      by None e = refl
      by (Some f) e =
          let i = first_found rests ds (second _ _ up) s f e in
          let below : (row_keys rests).cmp d.0 (s, i.rest) ≡ Less = below_in (row_keys rests) d.0 ds i.place ((s, i.rest), f) (first _ _ up) i.is in
          absurd (greater_not_less (sessions.cmp s d.0.0) (rests.cmp d.0.1 i.rest) (ap (λ w. ordering_then w (rests.cmp d.0.1 i.rest)) (sym (sessions.total.antisymm d.0.0 s)) ∙ below) over)

  pub first_next : (e : Row) (es : List Row) → T (is_sorted (row_keys rests).cmp (e ∷ es)) → eq_by_cmp sessions.cmp s e.0.0 ≡ true → first_of rests s es ≡ next_of s (slice_get es 0)
  first_next e [] up t = refl
  first_next e (d ∷ ds) up t =
      either (eq_by_cmp sessions.cmp s d.0.0)
      (λ tie. first_same rests s d ds tie ∙ sym (ap (λ c. cond c (Some d.1) None) tie))
      (λ apart.
      let same : s ≡ e.0.0 = tied_same sessions s e.0.0 t in
      let below : (row_keys rests).cmp e.0 d.0 ≡ Less = below_in (row_keys rests) e.0 (d ∷ ds) 0 d (first _ _ up) refl in
      let over : sessions.cmp s d.0.0 ≡ Less = then_less (sessions.cmp s d.0.0) (rests.cmp e.0.1 d.0.1) (ap (λ z. ordering_then (sessions.cmp z d.0.0) (rests.cmp e.0.1 d.0.1)) same ∙ below) apart in
      first_other rests s d ds apart ∙ none_later d ds (second _ _ up) over ∙ sym (ap (λ c. cond c (Some d.1) None) apart))

  tail_first : (es : List Row) (p : ℕ) (e : Row) → T (is_sorted (row_keys rests).cmp es) → slice_get es p ≡ Some e → eq_by_cmp sessions.cmp s e.0.0 ≡ true
      → first_of rests s (drop (suc p) es) ≡ next_of s (slice_get es (suc p))
  tail_first [] p e up at t = cc
  tail_first (d ∷ ds) zero e up at t = let is : d ≡ e = cc in first_next d ds up (ap (λ (z : Row). eq_by_cmp sessions.cmp s z.0.0) is ∙ t)
  tail_first (d ∷ ds) (suc p) e up at t = tail_first ds p e (second _ _ up) at t

  under_from : (es : List Row) (p : ℕ) (r : R) (f : ℕ) → slice_get es p ≡ Some ((s, r), f) → ((j : ℕ) (e : Row) → j < p → slice_get es j ≡ Some e → sessions.cmp e.0.0 s ≡ Less)
      → rows_under sessions rests s es ≡ (r, f) ∷ rows_under sessions rests s (drop (suc p) es)
  under_from [] p r f at before = cc
  under_from (d ∷ ds) zero r f at before =
      let is : d ≡ ((s, r), f) = cc in
      under_same rests s d ds (ap (λ (z : Row). eq_by_cmp sessions.cmp s z.0.0) is ∙ tied_self sessions s) ∙ ap (λ (z : Row). (z.0.1, z.1) ∷ rows_under sessions rests s ds) is
  under_from (d ∷ ds) (suc p) r f at before =
      let lt = before 0 d (omega arith) refl in
      let apart : eq_by_cmp sessions.cmp s d.0.0 ≡ false = ap is_eq (sessions.total.antisymm s d.0.0 ∙ ap ordering_reverse lt) in
      under_other rests s d ds apart ∙ under_from ds p r f at (λ j e low is. before (suc j) e (omega (arith, low)) is)

module _ {R : Type 0} (rests : Keys R) (keys : List (Option (Session × R))) (slots : List ℕ) (heads : List Head) (a : AreLists rests keys slots heads) (s : Session) (r : R) (slot : ℕ)
    (w : IsRow rests keys slots (s, r) slot) where
  abbrev row_table : Table (row_keys rests) ℕ
  row_table = record { rows = rows_of keys slots; sorted = a.sorted }

  abbrev gone : List ((Session × R) × ℕ)
  gone = where_key (row_keys rests).cmp (λ k. not (eq_by_cmp (row_keys rests).cmp (s, r) k)) (rows_of keys slots)

  row_is : slice_get (rows_of keys slots) w.place ≡ Some ((s, r), slot)
  row_is = row_at keys slots w.place slot (s, r) a.full w.is w.key

  pub rows_gone : rows_of keys (remove slots w.place) ≡ where_key (row_keys rests).cmp (λ k. not (eq_by_cmp (row_keys rests).cmp (s, r) k)) (rows_of keys slots)
  rows_gone =
      rows_removed keys slots w.place a.full ∙ sym (each_itself (remove (rows_of keys slots) w.place)) ∙ sym w.has.taken
      ∙ ap (where_key (row_keys rests).cmp (λ k. not (eq_by_cmp (row_keys rests).cmp (s, r) k))) (each_itself (rows_of keys slots))

  under_gone : rows_under sessions rests s gone ≡ where_key rests.cmp (λ x. not (eq_by_cmp rests.cmp r x)) (rows_under sessions rests s (rows_of keys slots))
  under_gone = ap (λ t. t.rows) (under-without_same sessions rests row_table s r)

  first_gone : (xs : List (R × ℕ)) → rows_under sessions rests s (rows_of keys slots) ≡ xs
      → first_of rests s gone ≡ option_map (λ e. e.1) (slice_get (where_key rests.cmp (λ x. not (eq_by_cmp rests.cmp r x)) xs) 0)
  first_gone xs is = ap (λ (es : List (R × ℕ)). option_map (λ e. e.1) (slice_get es 0)) (under_gone ∙ ap (where_key rests.cmp (λ x. not (eq_by_cmp rests.cmp r x))) is)

  other_gone : (q : Session) → eq_by_cmp sessions.cmp s q ≡ false → first_of rests q gone ≡ first_of rests q (rows_of keys slots)
  other_gone q ne = ap (λ (t : Table rests ℕ). option_map (λ e. e.1) (slice_get t.rows 0)) (under-without_other sessions rests row_table s q r ne)

  some : (f : ℕ) × (first_of rests s (rows_of keys slots) ≡ Some f)
  some = some_first rests (rows_of keys slots) w.place ((s, r), slot) row_is

  -- the row behind the session's first
  pub second_is : (f : ℕ) (i : IsFirst rests (rows_of keys slots) s f) → first_of rests s (drop (suc i.place) (rows_of keys slots)) ≡ of_session keys s (slice_get slots (suc i.place))
  second_is f i = tail_first rests s (rows_of keys slots) i.place ((s, i.rest), f) a.sorted i.is (tied_self sessions s) ∙ next_is keys slots s a.full (suc i.place)

  -- the first row taken out: the next is first
  first_next_now : (f : ℕ) → first_of rests s (rows_of keys slots) ≡ Some f → f ≡ slot → (behind : Option ℕ)
      → ((i : ℕ) → slice_get slots i ≡ Some slot → behind ≡ of_session keys s (slice_get slots (i + 1))) → first_of rests s gone ≡ behind
  first_next_now f e same behind behind_is =
      let i = first_found rests (rows_of keys slots) a.sorted s f e in
      let back = row_back keys slots i.place ((s, i.rest), f) a.full i.is in
      let rest : i.rest ≡ r = ap (λ (z : Session × R). z.1) (inner (s, i.rest) (s, r) (sym back.1 ∙ ap (slice_get keys) same ∙ w.key)) in
      let es : List (R × ℕ) = rows_under sessions rests s (drop (suc i.place) (rows_of keys slots)) in
      let under_is : rows_under sessions rests s (rows_of keys slots) ≡ (r, f) ∷ es = under_from rests s (rows_of keys slots) i.place i.rest f i.is i.before ∙ ap (λ q. (q, f) ∷ es) rest in
      let sorted : T (is_sorted rests.cmp ((r, f) ∷ es)) = subst (λ xs. T (is_sorted rests.cmp xs)) under_is (sorted_under sessions rests s (rows_of keys slots) a.sorted) in
      let none : find rests.cmp r es ≡ None = none_above rests r es (first _ _ sorted) in
      let kept : where_key rests.cmp (λ x. not (eq_by_cmp rests.cmp r x)) es ≡ es = ap (λ t. t.rows) (without_absent rests (record { rows = es; sorted = second _ _ sorted }) r none) in
      let skip : where_key rests.cmp (λ x. not (eq_by_cmp rests.cmp r x)) ((r, f) ∷ es) ≡ where_key rests.cmp (λ x. not (eq_by_cmp rests.cmp r x)) es =
      ap (λ c. cond (not c) ((r, f) ∷ where_key rests.cmp (λ x. not (eq_by_cmp rests.cmp r x)) es) (where_key rests.cmp (λ x. not (eq_by_cmp rests.cmp r x)) es)) (tied_self rests r) in
      let on : i.place + 1 ≡ suc i.place = omega arith in
      first_gone ((r, f) ∷ es) under_is ∙ ap (λ (xs : List (R × ℕ)). option_map (λ e. e.1) (slice_get xs 0)) (skip ∙ kept) ∙ second_is f i
      ∙ sym (behind_is i.place (back.0 ∙ ap Some same) ∙ ap (λ n. of_session keys s (slice_get slots n)) on)

  -- another taken out: the first stays
  first_stays : (f : ℕ) → first_of rests s (rows_of keys slots) ≡ Some f → (f ≡ slot → ⊥) → first_of rests s gone ≡ Some f
  first_stays f e apart =
      let i = first_found rests (rows_of keys slots) a.sorted s f e in
      let no_tie : eq_by_cmp rests.cmp r i.rest ≡ true → ⊥ = λ t.
      let same : r ≡ i.rest = tied_same rests r i.rest t in
      let one : find (row_keys rests).cmp (s, r) (rows_of keys slots) ≡ Some slot = in_found (row_keys rests) row_table (s, r) slot (got_in (rows_of keys slots) w.place ((s, r), slot) row_is) in
      let two : find (row_keys rests).cmp (s, i.rest) (rows_of keys slots) ≡ Some f = in_found (row_keys rests) row_table (s, i.rest) f (got_in (rows_of keys slots) i.place ((s, i.rest), f) i.is) in
      let both : Some f ≡ Some slot = sym two ∙ ap (λ q. find (row_keys rests).cmp (s, q) (rows_of keys slots)) (sym same) ∙ one in
      apart (cc) in
      let ne : eq_by_cmp rests.cmp r i.rest ≡ false = either (eq_by_cmp rests.cmp r i.rest) (λ t. absurd (no_tie t)) (λ n. n) in
      first_gone ((i.rest, f) ∷ i.under) i.under_is
      ∙ ap (λ c. option_map (λ (e : R × ℕ). e.1) (slice_get (cond (not c) ((i.rest, f) ∷ where_key rests.cmp (λ x. not (eq_by_cmp rests.cmp r x)) i.under)
      (where_key rests.cmp (λ x. not (eq_by_cmp rests.cmp r x)) i.under)) 0)) ne

  module _ (behind : Option ℕ) (behind_is : (i : ℕ) → slice_get slots i ≡ Some slot → behind ≡ of_session keys s (slice_get slots (i + 1))) where
    abbrev led_now : List (Session × ℕ)
    led_now = cond (is_first slot (first_of rests s (rows_of keys slots))) (led s behind (each head_row heads)) (each head_row heads)

    find_led : (q : Session) → find sessions.cmp q (led s behind (each head_row heads)) ≡ cond (eq_by_cmp sessions.cmp s q) behind (find sessions.cmp q (each head_row heads))
    find_led q = by behind
      where
        turned : eq_by_cmp sessions.cmp q s ≡ eq_by_cmp sessions.cmp s q
        turned = either (eq_by_cmp sessions.cmp s q)
            (λ t. let same : s ≡ q = tied_same sessions s q t in ap (λ z. eq_by_cmp sessions.cmp q z) same ∙ tied_self sessions q ∙ sym t)
            (λ n. either (eq_by_cmp sessions.cmp q s)
            (λ t. let same : q ≡ s = tied_same sessions q s t in absurd (both_ways _ n (ap (eq_by_cmp sessions.cmp s) same ∙ tied_self sessions s)))
            (λ m. m ∙ sym n))

        by : (o : Option ℕ) → find sessions.cmp q (led s o (each head_row heads)) ≡ cond (eq_by_cmp sessions.cmp s q) o (find sessions.cmp q (each head_row heads))
        by None = get-without sessions (table_of sessions head_row heads a.rising) s q ∙ turn_cond (eq_by_cmp sessions.cmp s q) (find sessions.cmp q (each head_row heads))
          where
            turn_cond : (c : Bool) (v : Option ℕ) → cond (not c) v None ≡ cond c None v
            turn_cond true v = refl
            turn_cond false v = refl
        by (Some n) = get-put_in sessions (table_of sessions head_row heads a.rising) s n q ∙ ap (λ c. cond c (Some n) (find sessions.cmp q (each head_row heads))) turned

    first_is : (f : ℕ) → first_of rests s (rows_of keys slots) ≡ Some f → is_first slot (first_of rests s (rows_of keys slots)) ≡ nat_eq f slot
    first_is f e = ap (is_first slot) e

    pub heads_gone : (q : Session) → find sessions.cmp q (cond (is_first slot (first_of rests s (rows_of keys slots))) (led s behind (each head_row heads)) (each head_row heads))
        ≡ first_of rests q gone
    heads_gone q =
        either (is_first slot (first_of rests s (rows_of keys slots)))
        (λ t.
        let same : some.0 ≡ slot = eqb-true some.0 slot (sym (first_is some.0 some.1) ∙ t) in
        ap (λ c. find sessions.cmp q (cond c (led s behind (each head_row heads)) (each head_row heads))) t ∙ find_led q
        ∙ either (eq_by_cmp sessions.cmp s q) {C = cond (eq_by_cmp sessions.cmp s q) behind (find sessions.cmp q (each head_row heads)) ≡ first_of rests q gone}
        (λ tie. ap (λ c. cond c behind (find sessions.cmp q (each head_row heads))) tie ∙ sym (first_next_now some.0 some.1 same behind behind_is)
        ∙ ap (λ z. first_of rests z gone) (tied_same sessions s q tie))
        (λ ne. ap (λ c. cond c behind (find sessions.cmp q (each head_row heads))) ne ∙ a.firsts q ∙ sym (other_gone q ne)))
        (λ n.
        let apart : some.0 ≡ slot → ⊥ = λ e. both_ways _ n (first_is some.0 some.1 ∙ eq-eqb some.0 slot e) in
        ap (λ c. find sessions.cmp q (cond c (led s behind (each head_row heads)) (each head_row heads))) n ∙ a.firsts q
        ∙ either (eq_by_cmp sessions.cmp s q) {C = first_of rests q (rows_of keys slots) ≡ first_of rests q gone}
        (λ tie. let is : s ≡ q = tied_same sessions s q tie in sym (ap (λ z. first_of rests z (rows_of keys slots)) is) ∙ some.1 ∙ sym (first_stays some.0 some.1 apart)
        ∙ ap (λ z. first_of rests z gone) is)
        (λ ne. sym (other_gone q ne)))

    led_rising : is_sorted sessions.cmp (led s behind (each head_row heads)) ≡ true
    led_rising = by behind
      where
        by : (o : Option ℕ) → is_sorted sessions.cmp (led s o (each head_row heads)) ≡ true
        by None = holds _ (is_sorted-where_key sessions.cmp (λ q. not (eq_by_cmp sessions.cmp s q)) (each head_row heads) (passes _ a.rising))
        by (Some n) = holds _ (is_sorted-put sessions.cmp sessions.total s n (each head_row heads) (passes _ a.rising))

    pub lists_gone : (heads2 : List Head) → each head_row heads2 ≡ cond (is_first slot (find sessions.cmp s (each head_row heads))) (led s behind (each head_row heads)) (each head_row heads)
        → AreLists rests keys (remove slots w.place) heads2
    lists_gone heads2 is =
        let lt : w.place < length slots = slice_get_within slots w.place slot w.is in
        let in_rows : w.place < length (rows_of keys slots) = omega (arith, lt, length_rows keys slots a.full) in
        let n : length (rows_of keys (remove slots w.place)) ≡ length (remove slots w.place) =
        omega (arith, ap length (rows_removed keys slots w.place a.full), length-remove (rows_of keys slots) w.place in_rows, length_rows keys slots a.full, length-remove slots w.place lt) in
        record {
          sorted = subst (λ es. T (is_sorted (row_keys rests).cmp es)) (sym rows_gone) (is_sorted-where_key (row_keys rests).cmp (λ k. not (eq_by_cmp (row_keys rests).cmp (s, r) k))
              (rows_of keys slots) a.sorted);
          full = full_if keys (remove slots w.place) n;
          rising = subst (λ es. is_sorted sessions.cmp es ≡ true) (sym is) (either (is_first slot (find sessions.cmp s (each head_row heads)))
              (λ t. ap (λ c. is_sorted sessions.cmp (cond c (led s behind (each head_row heads)) (each head_row heads))) t ∙ led_rising)
              (λ t. ap (λ c. is_sorted sessions.cmp (cond c (led s behind (each head_row heads)) (each head_row heads))) t ∙ a.rising));
          firsts = λ q.
              ap (find sessions.cmp q) is ∙ ap (λ o. find sessions.cmp q (cond (is_first slot o) (led s behind (each head_row heads)) (each head_row heads))) (a.firsts s)
              ∙ heads_gone q ∙ ap (first_of rests q) (sym rows_gone);
        }
