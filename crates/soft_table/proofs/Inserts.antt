-- The lists after a row was put in.
use Rattle.std.proofs.Common.{◌≡◌, ◌≤◌, ℕ, true, cond, T, is_some, List, [], ◌∷◌, length, map as each, Option, Some, None, refl, sym, ap, subst, ◌∙◌, arith}
use Rattle.std.specs.Prelude.{slice_get}
use Rattle.std.specs.List.{insert}
use Rattle.std.specs.Option.{option_map}
use Rattle.std.specs.FinMap.Entries.{find, put, is_sorted, is_sorted-put}
use Rattle.std.proofs.lemmas.List.{length-map}
use Rattle.std.proofs.lemmas.List.Edits.{length-insert}
use Rattle.rsvp_base.specs.Keys.{Keys}
use Rattle.rsvp_base.specs.Orders.{sessions}
use Rattle.rsvp_base.specs.Rows.{table_of}
use Rattle.rsvp_base.specs.SessionLimits.{sessions_in}
use Rattle.rsvp_base.specs.Sets.{Set}
use Rattle.rsvp_base.specs.Table.{Table, passes, size, get, changed, changed_rows, keys as in_order}
use Rattle.rsvp_base.specs.Under.{rows_under}
use Rattle.rsvp_base.specs.declared.session.Session.{Session}
use Rattle.rsvp_base.proofs.Counts.{size-set_of}
use Rattle.rsvp_base.proofs.Rows.{each_itself}
use Rattle.rsvp_base.proofs.SessionCounts.{has_session, is_full}
use Rattle.rsvp_base.proofs.Sizes.{size_same}
use Rattle.rsvp_base.proofs.SetLaws.{same_set}
use Rattle.rsvp_base.proofs.Tables.{either, holds, then_do, get-changed}
use Rattle.soft_table.specs.Ring.{Has}
use Rattle.soft_table.specs.declared.heads.Head.{Head}
use Rattle.soft_table.specs.Lists.{AreLists, IsGap, row_keys, first_of, head_row, key_row, rows_of, leads, led, sessions_of}
use Rattle.soft_table.proofs.Held.{length_rows, rows_inserted, full_if}
use Rattle.soft_table.proofs.Found.{found_none}
use Rattle.soft_table.proofs.Leads.{heads_put}

first_full : {A : Type 0} (xs : List (A × ℕ)) → is_some (option_map (λ e. e.1) (slice_get xs 0)) ≡ is_full xs
first_full [] = refl
first_full (x ∷ xs) = refl

module _ {R : Type 0} (rests : Keys R) (keys : List (Option (Session × R))) (slots : List ℕ) (heads : List Head) (a : AreLists rests keys slots heads) where
  -- as many heads as there are sessions with rows, and no more than rows
  pub heads_counted : length heads ≡ size (sessions_of (rows_of keys slots))
  heads_counted =
      let t : Table (row_keys rests) ℕ = record { rows = rows_of keys slots; sorted = a.sorted } in
      sym (length-map heads head_row) ∙ size_same sessions (table_of sessions head_row heads a.rising) (sessions_in rests t)
      (λ q. ap is_some (a.firsts q) ∙ first_full (rows_under sessions rests q (rows_of keys slots)) ∙ sym (has_session rests t q))

  -- the heads are those of the sessions with rows, in their order
  pub heads_are : each (λ (h : Head). h.session) heads ≡ in_order (sessions_of (rows_of keys slots))
  heads_are =
      let t : Table (row_keys rests) ℕ = record { rows = rows_of keys slots; sorted = a.sorted } in
      let of_heads : Table sessions ℕ = table_of sessions head_row heads a.rising in
      let alone : Set sessions = changed (λ k x. Some tt) of_heads in
      let same : alone ≡ sessions_of (rows_of keys slots) =
      same_set sessions alone (sessions_in rests t) (λ q. ap is_some (get-changed sessions (λ k x. Some tt) of_heads q) ∙ either_way (get of_heads q) ∙ ap is_some (a.firsts q)
      ∙ first_full (rows_under sessions rests q (rows_of keys slots)) ∙ sym (has_session rests t q)) in
      listed heads ∙ ap in_order same
    where
      nothing : ℕ → Option (Unit {0})
      nothing x = Some tt

      either_way : (w : Option ℕ) → is_some (then_do w nothing) ≡ is_some w
      either_way None = refl
      either_way (Some x) = refl

      listed : (hs : List Head) → each (λ (h : Head). h.session) hs ≡ each (λ (e : Session × Unit {0}). e.0) (changed_rows (λ k x. Some tt) (each head_row hs))
      listed [] = refl
      listed (h ∷ hs) = ap (λ xs. h.session ∷ xs) (listed hs)

  few_heads : length heads ≤ length (rows_of keys slots)
  few_heads =
      let ks : List Session = each (λ (k : Session × R). k.0) (each (λ (e : (Session × R) × ℕ). e.0) (rows_of keys slots)) in
      omega (
        arith,
        heads_counted,
        size-set_of sessions ks,
        length-map (each (λ (e : (Session × R) × ℕ). e.0) (rows_of keys slots)) (λ (k : Session × R). k.0),
        length-map (rows_of keys slots) (λ (e : (Session × R) × ℕ). e.0),
      )

  pub few : length heads ≤ length slots
  few = omega (arith, few_heads, length_rows keys slots a.full)

  module _ (s : Session) (r : R) (slot : ℕ) (b : Option ℕ) (gap : IsGap rests keys slots (s, r) b) (new : Has slots slot → ⊥) (keys2 : List (Option (Session × R)))
      (here : slice_get keys2 slot ≡ Some (Some (s, r)))
      (same : (t : ℕ) → (t ≡ slot → ⊥) → key_row t (slice_get keys2 t) ≡ key_row t (slice_get keys t)) where
    as_inserted : rows_of keys2 (insert slots gap.place.start.place slot) ≡ insert (rows_of keys slots) gap.place.start.place ((s, r), slot)
    as_inserted = rows_inserted keys keys2 slots gap.place.start.place slot (s, r) gap.place.start.within here (λ j t at. same t (λ e. new (j, at ∙ ap Some e))) a.full

    pub rows_now : rows_of keys2 (insert slots gap.place.start.place slot) ≡ put (row_keys rests).cmp (s, r) slot (rows_of keys slots)
    rows_now =
        let into = gap.lacks.inserted ((s, r), slot) slot refl in
        as_inserted ∙ sym (ap (put (row_keys rests).cmp (s, r) slot) (sym (each_itself (rows_of keys slots))) ∙ into ∙ each_itself (insert (rows_of keys slots) gap.place.start.place ((s, r), slot)))

    pub lists_now : (heads2 : List Head) → each head_row heads2 ≡ cond (leads (find sessions.cmp s (each head_row heads)) b) (led s (Some slot) (each head_row heads)) (each head_row heads)
        → AreLists rests keys2 (insert slots gap.place.start.place slot) heads2
    lists_now heads2 is =
        let n : length (rows_of keys2 (insert slots gap.place.start.place slot)) ≡ length (insert slots gap.place.start.place slot) =
        omega (
          arith,
          ap length as_inserted,
          length-insert (rows_of keys slots) gap.place.start.place ((s, r), slot) (omega (arith, gap.place.start.within, length_rows keys slots a.full)),
          length_rows keys slots a.full,
          length-insert slots gap.place.start.place slot gap.place.start.within,
        ) in
        record {
          sorted = subst (λ es. T (is_sorted (row_keys rests).cmp es)) (sym rows_now) (is_sorted-put (row_keys rests).cmp (row_keys rests).total (s, r) slot (rows_of keys slots) a.sorted);
          full = full_if keys2 (insert slots gap.place.start.place slot) n;
          rising = subst (λ es. is_sorted sessions.cmp es ≡ true) (sym is) (either (leads (find sessions.cmp s (each head_row heads)) b)
              (λ t. ap (λ c. is_sorted sessions.cmp (cond c (led s (Some slot) (each head_row heads)) (each head_row heads))) t
              ∙ holds _ (is_sorted-put sessions.cmp sessions.total s slot (each head_row heads) (passes _ a.rising)))
              (λ t. ap (λ c. is_sorted sessions.cmp (cond c (led s (Some slot) (each head_row heads)) (each head_row heads))) t ∙ a.rising));
          firsts = λ q.
              ap (find sessions.cmp q) is
              ∙ ap (λ o. find sessions.cmp q (cond (leads o b) (led s (Some slot) (each head_row heads)) (each head_row heads))) (a.firsts s)
              ∙ heads_put rests keys slots heads a s r slot b gap.place (found_none rests keys slots a.full (s, r) b gap) q
              ∙ ap (first_of rests q) (sym rows_now);
        }
