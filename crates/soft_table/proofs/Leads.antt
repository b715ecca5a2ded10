-- The head of a session after a row was put in, and taken out.
use Rattle.std.proofs.Common.{◌≡◌, ◌<◌, ℕ, true, false, cond, List, [], ◌∷◌, map as each, Option, Some, None, refl, sym, ap, ◌∙◌, arith, inl, inr}
use Rattle.std.specs.Prelude.{slice_get}
use Rattle.std.specs.Option.{option_map}
use Rattle.std.specs.Ordering.{eq_by_cmp, ordering_then, ordering_reverse}
use Rattle.std.specs.declared.cmp.Ordering.{Ordering}
use Rattle.std.specs.declared.cmp.Ordering.TheVariants.{Less, Equal, Greater}
use Rattle.std.specs.FinMap.Entries.{by_order, find, put}
use Rattle.std.specs.Cmp.{tied_itself}
use Rattle.std.proofs.lemmas.Bool.{cases_lt, cases_eq, eq-eqb, eqb-true, both_ways}
use Rattle.std.proofs.lemmas.Option.{slice_get_within}
use Rattle.rsvp_base.specs.Keys.{Keys}
use Rattle.rsvp_base.specs.Orders.{sessions}
use Rattle.rsvp_base.specs.Rows.{table_of}
use Rattle.rsvp_base.specs.Table.{Table}
use Rattle.rsvp_base.specs.Under.{rows_under}
use Rattle.rsvp_base.specs.declared.session.Session.{Session}
use Rattle.rsvp_base.proofs.Counts.{in_found}
use Rattle.rsvp_base.proofs.Fronts.{got_in}
use Rattle.rsvp_base.proofs.Tables.{either, tied_same, get-put_in}
use Rattle.rsvp_base.proofs.UnderLaws.{under-put_in_same, under-put_in_other}
use Rattle.soft_table.specs.declared.heads.Head.{Head}
use Rattle.soft_table.specs.Lists.{AreLists, IsPlace, row_keys, first_of, head_row, rows_of, leads, led}
use Rattle.soft_table.proofs.Held.{nothing_past, row_at, row_back}
use Rattle.soft_table.proofs.Firsts.{IsFirst, first_found}

-- a list without a first element is empty
no_first : {A : Type 0} (xs : List (A × ℕ)) → option_map (λ e. e.1) (slice_get xs 0) ≡ None → xs ≡ []
no_first [] e = refl
no_first (x ∷ xs) e = cc

by_equal : (w v : Ordering) → w ≡ Equal → ordering_then w v ≡ v
by_equal w v e = ap (λ z. ordering_then z v) e

to_less : (w : Ordering) → (w ≡ Less → ⊥) → (w ≡ Equal → ⊥) → ordering_reverse w ≡ Less
to_less Less nl ne = absurd (nl refl)
to_less Equal nl ne = absurd (ne refl)
to_less Greater nl ne = refl

module _ {R : Type 0} (rests : Keys R) (keys : List (Option (Session × R))) (slots : List ℕ) (heads : List Head) (a : AreLists rests keys slots heads) where
  abbrev rows : List ((Session × R) × ℕ)
  rows = rows_of keys slots

  abbrev row_table : Table (row_keys rests) ℕ
  row_table = record { rows = rows_of keys slots; sorted = a.sorted }

  -- a row whose key has none is none
  not_there : (s : Session) (r : R) (j : ℕ) (t : ℕ) → find (row_keys rests).cmp (s, r) (rows_of keys slots) ≡ None → slice_get (rows_of keys slots) j ≡ Some ((s, r), t) → ⊥
  not_there s r j t none at = let z : Some t ≡ None = sym (in_found (row_keys rests) row_table (s, r) t (got_in (rows_of keys slots) j ((s, r), t) at)) ∙ none in cc

  module _ (s : Session) (r : R) (slot : ℕ) (b : Option ℕ) (w : IsPlace rests keys slots (s, r) b) (none : find (row_keys rests).cmp (s, r) (rows_of keys slots) ≡ None) where
    -- how the first row of the session stands to the key
    same_session : (q : R) → (row_keys rests).cmp (s, q) (s, r) ≡ rests.cmp q r
    same_session q = by_equal (sessions.cmp s s) (rests.cmp q r) (tied_itself sessions.total s)

    -- it is behind the key where the key's row goes before it
    behind : (f : ℕ) (i : IsFirst rests (rows_of keys slots) s f) → b ≡ Some f → rests.cmp r i.rest ≡ Less
    behind f i is =
        let back = row_back keys slots i.place ((s, i.rest), f) a.full i.is in
        let here : slice_get (rows_of keys slots) w.start.place ≡ Some ((s, i.rest), f) = row_at keys slots w.start.place f (s, i.rest) a.full (w.start.is ∙ is) back.1 in
        rests.total.antisymm r i.rest
        ∙ to_less (rests.cmp i.rest r) (λ lt. w.here ((s, i.rest), f) here (same_session i.rest ∙ lt))
        (λ e. not_there s r w.start.place f none (here ∙ ap (λ q. Some ((s, q), f)) (rests.same i.rest r e)))

    -- and before it elsewhere
    ahead : (f : ℕ) (i : IsFirst rests (rows_of keys slots) s f) → (b ≡ Some f → ⊥) → rests.cmp i.rest r ≡ Less
    ahead f i no_b =
        elim (cases_lt i.place w.start.place) [
          | inl lt ↦ sym (same_session i.rest) ∙ w.start.before i.place ((s, i.rest), f) lt i.is
          | inr le ↦ elim (cases_eq i.place w.start.place) [
            | inl e ↦ absurd (no_b (sym w.start.is ∙ ap (slice_get slots) (sym e) ∙ (row_back keys slots i.place ((s, i.rest), f) a.full i.is).0))
            | inr ne ↦ absurd (earlier (slice_get (rows_of keys slots) w.start.place) refl (omega (arith, le, ne)))
          ]
        ]
      where
        earlier : (o : Option ((Session × R) × ℕ)) → slice_get (rows_of keys slots) w.start.place ≡ o → w.start.place < i.place → ⊥
        earlier None at lt = omega (arith, nothing_past (rows_of keys slots) w.start.place at, slice_get_within (rows_of keys slots) i.place ((s, i.rest), f) i.is, lt)
        earlier (Some e) at lt = w.here e at (ap (λ z. ordering_then z (rests.cmp e.0.1 r)) (i.before w.start.place e lt at))

    -- the rows of the session then, and of others
    under_now : rows_under sessions rests s (put (row_keys rests).cmp (s, r) slot (rows_of keys slots)) ≡ put rests.cmp r slot (rows_under sessions rests s (rows_of keys slots))
    under_now = ap (λ t. t.rows) (under-put_in_same sessions rests row_table s r slot)

    first_other : (q : Session) → eq_by_cmp sessions.cmp q s ≡ false → first_of rests q (put (row_keys rests).cmp (s, r) slot (rows_of keys slots)) ≡ first_of rests q (rows_of keys slots)
    first_other q ne = ap (λ (t : Table rests ℕ). option_map (λ e. e.1) (slice_get t.rows 0)) (under-put_in_other sessions rests row_table s q r slot ne)

    first_now : (xs : List (R × ℕ)) → rows_under sessions rests s (rows_of keys slots) ≡ xs
        → first_of rests s (put (row_keys rests).cmp (s, r) slot (rows_of keys slots)) ≡ option_map (λ e. e.1) (slice_get (put rests.cmp r slot xs) 0)
    first_now xs is = ap (λ (es : List (R × ℕ)). option_map (λ e. e.1) (slice_get es 0)) (under_now ∙ ap (put rests.cmp r slot) is)

    put_before : (q : R) (f : ℕ) (es : List (R × ℕ)) → rests.cmp r q ≡ Less → option_map (λ (e : R × ℕ). e.1) (slice_get (put rests.cmp r slot ((q, f) ∷ es)) 0) ≡ Some slot
    put_before q f es lt = ap (λ o. option_map (λ (e : R × ℕ). e.1) (slice_get (by_order o ((r, slot) ∷ (q, f) ∷ es) ((q, slot) ∷ es) ((q, f) ∷ put rests.cmp r slot es)) 0)) lt

    put_behind : (q : R) (f : ℕ) (es : List (R × ℕ)) → rests.cmp q r ≡ Less → option_map (λ (e : R × ℕ). e.1) (slice_get (put rests.cmp r slot ((q, f) ∷ es)) 0) ≡ Some f
    put_behind q f es lt =
        let gt : rests.cmp r q ≡ Greater = rests.total.antisymm r q ∙ ap ordering_reverse lt in
        ap (λ o. option_map (λ (e : R × ℕ). e.1) (slice_get (by_order o ((r, slot) ∷ (q, f) ∷ es) ((q, slot) ∷ es) ((q, f) ∷ put rests.cmp r slot es)) 0)) gt

    first_new : leads (first_of rests s (rows_of keys slots)) b ≡ true → first_of rests s (put (row_keys rests).cmp (s, r) slot (rows_of keys slots)) ≡ Some slot
    first_new t = by (first_of rests s (rows_of keys slots)) refl t
      where
        is_first : (f : ℕ) (o : Option ℕ) → leads (Some f) o ≡ true → o ≡ Some f
        is_first f None e = absurd (both_ways _ refl e)
        is_first f (Some g) e = ap Some (sym (eqb-true f g e))

        by : (o : Option ℕ) → first_of rests s (rows_of keys slots) ≡ o → leads o b ≡ true → first_of rests s (put (row_keys rests).cmp (s, r) slot (rows_of keys slots)) ≡ Some slot
        by None e t = first_now [] (no_first (rows_under sessions rests s (rows_of keys slots)) e)
        by (Some f) e t =
            let i = first_found rests (rows_of keys slots) a.sorted s f e in
            first_now ((i.rest, f) ∷ i.under) i.under_is ∙ put_before i.rest f i.under (behind f i (is_first f b t))

    first_kept : leads (first_of rests s (rows_of keys slots)) b ≡ false → first_of rests s (put (row_keys rests).cmp (s, r) slot (rows_of keys slots)) ≡ first_of rests s (rows_of keys slots)
    first_kept t = by (first_of rests s (rows_of keys slots)) refl t
      where
        by : (o : Option ℕ) → first_of rests s (rows_of keys slots) ≡ o → leads o b ≡ false
            → first_of rests s (put (row_keys rests).cmp (s, r) slot (rows_of keys slots)) ≡ first_of rests s (rows_of keys slots)
        by None e t = absurd (both_ways _ t refl)
        by (Some f) e t =
            let i = first_found rests (rows_of keys slots) a.sorted s f e in
            let apart : b ≡ Some f → ⊥ = λ is. both_ways _ t (ap (leads (Some f)) is ∙ eq-eqb f f refl) in
            first_now ((i.rest, f) ∷ i.under) i.under_is ∙ put_behind i.rest f i.under (ahead f i apart) ∙ sym e

    -- the heads lead to the first rows again
    pub heads_put : (q : Session) → find sessions.cmp q (cond (leads (first_of rests s (rows_of keys slots)) b) (led s (Some slot) (each head_row heads)) (each head_row heads))
        ≡ first_of rests q (put (row_keys rests).cmp (s, r) slot (rows_of keys slots))
    heads_put q =
        either (leads (first_of rests s (rows_of keys slots)) b)
        (λ t.
        let now : find sessions.cmp q (cond (leads (first_of rests s (rows_of keys slots)) b) (led s (Some slot) (each head_row heads)) (each head_row heads))
        ≡ cond (eq_by_cmp sessions.cmp q s) (Some slot) (find sessions.cmp q (each head_row heads)) =
        ap (λ c. find sessions.cmp q (cond c (led s (Some slot) (each head_row heads)) (each head_row heads))) t ∙ get-put_in sessions (table_of sessions head_row heads a.rising) s slot q in
        either (eq_by_cmp sessions.cmp q s)
        (λ tie. let is : q ≡ s = tied_same sessions q s tie in now ∙ ap (λ c. cond c (Some slot) (find sessions.cmp q (each head_row heads))) tie
        ∙ sym (ap (λ z. first_of rests z (put (row_keys rests).cmp (s, r) slot (rows_of keys slots))) is ∙ first_new t))
        (λ ne. now ∙ ap (λ c. cond c (Some slot) (find sessions.cmp q (each head_row heads))) ne ∙ a.firsts q ∙ sym (first_other q ne)))
        (λ n.
        let now : find sessions.cmp q (cond (leads (first_of rests s (rows_of keys slots)) b) (led s (Some slot) (each head_row heads)) (each head_row heads)) ≡ first_of rests q (rows_of keys slots) =
        ap (λ c. find sessions.cmp q (cond c (led s (Some slot) (each head_row heads)) (each head_row heads))) n ∙ a.firsts q in
        either (eq_by_cmp sessions.cmp q s)
        (λ tie. let is : q ≡ s = tied_same sessions q s tie in now ∙ ap (λ z. first_of rests z (rows_of keys slots)) is ∙ sym (first_kept n)
        ∙ sym (ap (λ z. first_of rests z (put (row_keys rests).cmp (s, r) slot (rows_of keys slots))) is))
        (λ ne. now ∙ sym (first_other q ne)))
