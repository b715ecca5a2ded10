-- What a search for a key finds: its row, or the place of one.
use Rattle.std.proofs.Common.{◌≡◌, ◌<◌, ◌≤◌, ℕ, zero, suc, true, false, cond, T, List, [], ◌∷◌, length, get_or, Option, Some, None, refl, sym, ap, subst, ◌∙◌, arith, inl, inr}
use Rattle.std.specs.Prelude.{slice_get, Ok, Err}
use Rattle.std.specs.Cmp.{tied_itself}
use Rattle.std.specs.Ordering.{eq_by_cmp, is_eq, ordering_reverse}
use Rattle.std.specs.declared.cmp.Ordering.{Ordering}
use Rattle.std.specs.declared.cmp.Ordering.TheVariants.{Less, Equal, Greater}
use Rattle.std.specs.FinMap.Entries.{find, is_sorted}
use Rattle.std.proofs.lemmas.Bool.{cases_eq, both_ways}
use Rattle.std.proofs.lemmas.Option.{slice_get_within, get_or_from_slice_get}
use Rattle.rsvp_base.specs.Keys.{Keys}
use Rattle.rsvp_base.specs.Rows.{AreRows, HasRowAt, LacksRowAt}
use Rattle.rsvp_base.specs.Table.{passes}
use Rattle.rsvp_base.specs.declared.session.Session.{Session}
use Rattle.rsvp_base.proofs.Places.{greater}
use Rattle.rsvp_base.proofs.Rows.{searched_found, searched_absent, each_itself}
use Rattle.rsvp_base.proofs.Tables.{either, holds, tied_same}
use Rattle.soft_table.specs.Lists.{IsPlace, IsRow, IsGap, row_keys, rows_of, itself}
use Rattle.soft_table.proofs.Held.{AreFull, length_rows, row_at, row_back, nothing_past}

some_at : {A : Type 0} (xs : List A) (i : ℕ) (d : A) → i < length xs → slice_get xs i ≡ Some (get_or xs i d)
some_at [] i d lt = absurd (omega (arith, lt))
some_at (x ∷ xs) zero d lt = refl
some_at (x ∷ xs) (suc i) d lt = some_at xs i d (omega (arith, lt))

greater_if : (w : Ordering) → (w ≡ Less → ⊥) → (w ≡ Equal → ⊥) → w ≡ Greater
greater_if Less nl ne = absurd (nl refl)
greater_if Equal nl ne = absurd (ne refl)
greater_if Greater nl ne = refl

equal_if : (w : Ordering) → is_eq w ≡ true → w ≡ Equal
equal_if Less e = cc
equal_if Equal e = refl
equal_if Greater e = cc

pub are_rows : {K : Type 0} (o : Keys K) (es : List (K × ℕ)) → T (is_sorted o.cmp es) → AreRows o itself es
are_rows o es up = subst (λ xs. is_sorted o.cmp xs ≡ true) (sym (each_itself es)) (holds _ up)

module _ {K : Type 0} (o : Keys K) (es : List (K × ℕ)) (up : T (is_sorted o.cmp es)) (k : K) where
  found_at : (i : ℕ) (e : K × ℕ) → slice_get es i ≡ Some e → o.cmp e.0 k ≡ Equal → HasRowAt o itself es k i
  found_at i e at tie = searched_found o itself es k (Ok i) (are_rows o es up) (slice_get_within es i e at) (λ d. ap (λ z. o.cmp z.0 k) (get_or_from_slice_get es i e d at) ∙ tie)

  absent_at : (i : ℕ) → i ≤ length es → ((j : ℕ) (e : K × ℕ) → j < i → slice_get es j ≡ Some e → o.cmp e.0 k ≡ Less) → ((e : K × ℕ) → slice_get es i ≡ Some e → o.cmp e.0 k ≡ Greater)
      → LacksRowAt o itself es k i
  absent_at i le before behind = searched_absent o itself es k (Err i) (are_rows o es up) le (λ _. (
    λ j d low lt. before j (get_or es j d) lt (some_at es j d (omega (arith, lt, le))),
    λ j d low lt. elim (cases_eq j i) [
      | inl e ↦ behind (get_or es j d) (ap (slice_get es) (sym e) ∙ some_at es j d lt)
      | inr ne ↦
          let here = behind (get_or es i d) (some_at es i d (omega (arith, low, lt))) in
          let over : o.cmp k (get_or es i d).0 ≡ Less = o.total.antisymm k (get_or es i d).0 ∙ ap ordering_reverse here in
          let up_ : o.cmp (get_or es i d).0 (get_or es j d).0 ≡ Less = greater o itself es (passes _ (are_rows o es up)) i j d (omega (arith, low, ne)) lt in
          o.total.antisymm (get_or es j d).0 k ∙ ap ordering_reverse (o.total.trans k (get_or es i d).0 (get_or es j d).0 over up_)
    ],
  ))

found_in : {K : Type 0} (o : Keys K) (k : K) (es : List (K × ℕ)) (s : ℕ) → find o.cmp k es ≡ Some s → (j : ℕ) × (slice_get es j ≡ Some (k, s))
found_in o k [] s is = cc
found_in {K} o k (e ∷ es) s is =
    either (eq_by_cmp o.cmp k e.0) {C = (j : ℕ) × (slice_get (e ∷ es) j ≡ Some (k, s))}
    (λ t.
    let same : k ≡ e.0 = tied_same o k e.0 t in
    let both : Some e.1 ≡ Some s = sym (ap (λ b. cond b (Some e.1) (find o.cmp k es)) t) ∙ is in
    let slot : e.1 ≡ s = cc in
    (0, λ i. Some (sym same i, slot i)))
    (λ n. let rest = found_in o k es s (sym (ap (λ b. cond b (Some e.1) (find o.cmp k es)) n) ∙ is) in (suc rest.0, rest.1))

module _ {R : Type 0} (rests : Keys R) (keys : List (Option (Session × R))) (slots : List ℕ) (full : AreFull keys slots) (up : T (is_sorted (row_keys rests).cmp (rows_of keys slots)))
    (key : Session × R) where
  pub is_row : (s : ℕ) (k : Session × R) (w : IsPlace rests keys slots key (Some s)) → slice_get keys s ≡ Some (Some k) → eq_by_cmp (row_keys rests).cmp k key ≡ true → IsRow rests keys slots key s
  is_row s k w k_is tie =
      let same : k ≡ key = tied_same (row_keys rests) k key tie in
      record {
        place = w.start.place;
        is = w.start.is;
        key = k_is ∙ ap (λ z. Some (Some z)) same;
        has = found_at (row_keys rests) (rows_of keys slots) up key w.start.place (k, s) (row_at keys slots w.start.place s k full w.start.is k_is) (equal_if _ tie);
      }

  pub is_gap : (s : ℕ) (k : Session × R) (w : IsPlace rests keys slots key (Some s)) → slice_get keys s ≡ Some (Some k) → eq_by_cmp (row_keys rests).cmp k key ≡ false
      → IsGap rests keys slots key (Some s)
  is_gap s k w k_is apart =
      record {
        place = w;
        lacks = absent_at (row_keys rests) (rows_of keys slots) up key w.start.place (omega (arith, w.start.within, length_rows keys slots full)) w.start.before
            (λ e at. greater_if _ (w.here e at) (λ tie.
            let both : Some (k, s) ≡ Some e = sym (row_at keys slots w.start.place s k full w.start.is k_is) ∙ at in
            let is : (k, s) ≡ e = cc in
            both_ways _ apart (ap is_eq (ap (λ z. (row_keys rests).cmp z.0 key) is ∙ tie))));
      }

  pub is_end : (w : IsPlace rests keys slots key None) → IsGap rests keys slots key None
  is_end w =
      record {
        place = w;
        lacks = absent_at (row_keys rests) (rows_of keys slots) up key w.start.place (omega (arith, w.start.within, length_rows keys slots full)) w.start.before
            (λ e at. absurd (omega (arith, slice_get_within (rows_of keys slots) w.start.place e at, length_rows keys slots full, nothing_past slots w.start.place w.start.is)));
      }

  -- the row that the key leads to
  pub found_row : (s : ℕ) → find (row_keys rests).cmp key (rows_of keys slots) ≡ Some s → IsRow rests keys slots key s
  found_row s is =
      let at = found_in (row_keys rests) key (rows_of keys slots) s is in
      let back = row_back keys slots at.0 (key, s) full at.1 in
      record {
        place = at.0;
        is = back.0;
        key = back.1;
        has = found_at (row_keys rests) (rows_of keys slots) up key at.0 (key, s) at.1 (tied_itself (row_keys rests).total key);
      }

module _ {R : Type 0} (rests : Keys R) (keys : List (Option (Session × R))) (slots : List ℕ) (full : AreFull keys slots) (key : Session × R) where
  -- what stands under the key then
  pub found_slot : (s : ℕ) → IsRow rests keys slots key s → find (row_keys rests).cmp key (rows_of keys slots) ≡ Some s
  found_slot s w =
      ap (find (row_keys rests).cmp key) (sym (each_itself (rows_of keys slots))) ∙ w.has.found (key, s)
      ∙ ap (λ z. Some z.1) (get_or_from_slice_get (rows_of keys slots) w.place (key, s) (key, s) (row_at keys slots w.place s key full w.is w.key))

  pub found_none : (b : Option ℕ) → IsGap rests keys slots key b → find (row_keys rests).cmp key (rows_of keys slots) ≡ None
  found_none b w = ap (find (row_keys rests).cmp key) (sym (each_itself (rows_of keys slots))) ∙ w.lacks.absent
