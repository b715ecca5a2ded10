-- Where the rows of a session would go that has none.
use Rattle.std.proofs.Common.{◌≡◌, ◌<◌, ◌≤◌, ◌+◌, ℕ, T, List, length, get_or, map as each, Option, Some, None, refl, sym, ap, subst, ◌∙◌, arith, inl, inr}
use Rattle.std.specs.Prelude.{slice_get}
use Rattle.std.specs.List.{insert}
use Rattle.std.specs.Option.{option_map}
use Rattle.std.specs.Ordering.{is_eq, ordering_then, ordering_reverse}
use Rattle.std.specs.declared.cmp.Ordering.TheVariants.{Less, Greater}
use Rattle.std.specs.FinMap.Entries.{is_sorted, is_sorted-put}
use Rattle.std.proofs.lemmas.Bool.{cases_lt, cases_eq, both_ways}
use Rattle.std.proofs.lemmas.List.Edits.{length-insert, get_or-insert_below, get_or-insert_at, get_or-insert_above}
use Rattle.std.proofs.lemmas.Option.{slice_get_within, get_or_from_slice_get}
use Rattle.rsvp_base.specs.Keys.{Keys}
use Rattle.rsvp_base.specs.Orders.{sessions}
use Rattle.rsvp_base.specs.Rows.{AreRows, LacksRowAt}
use Rattle.rsvp_base.specs.Table.{passes}
use Rattle.rsvp_base.specs.declared.session.Session.{Session}
use Rattle.rsvp_base.proofs.Places.{greater}
use Rattle.rsvp_base.proofs.Tables.{tied_self}
use Rattle.soft_table.specs.declared.heads.Head.{Head}
use Rattle.soft_table.specs.Lists.{AreLists, IsPlace, IsGap, row_keys, head_row, rows_of}
use Rattle.soft_table.proofs.Held.{length_rows, nothing_at, nothing_past, row_back}
use Rattle.soft_table.proofs.Found.{is_gap, is_end}
use Rattle.soft_table.proofs.Firsts.{first_found, head_of_row, head_leads}

-- the heads before the place of a session's head are of earlier sessions, and the one there is of a later one
module _ (heads : List Head) (s : Session) (m : ℕ) (up : AreRows sessions head_row heads) (l : LacksRowAt sessions head_row heads s m) where
  abbrev own : Head
  own = record { session = s; first = 0 }

  abbrev wider : List Head
  wider = insert heads m own

  wider_up : T (is_sorted sessions.cmp (each head_row wider))
  wider_up = subst (λ es. T (is_sorted sessions.cmp es)) (l.inserted own 0 refl) (is_sorted-put sessions.cmp sessions.total s 0 (each head_row heads) (passes _ up))

  at_own : (h : Head) → get_or wider m h ≡ own
  at_own h = get_or-insert_at heads m own h l.within

  pub below : (j : ℕ) (h : Head) → j < m → slice_get heads j ≡ Some h → sessions.cmp h.session s ≡ Less
  below j h lt at =
      let is : get_or wider j h ≡ h = get_or-insert_below heads m own h j lt l.within ∙ get_or_from_slice_get heads j h h at in
      let n : length wider ≡ length heads + 1 = length-insert heads m own l.within in
      let le : m ≤ length heads = l.within in
      ap (λ (x : Head). sessions.cmp x.session s) (sym is) ∙ ap (λ (x : Head). sessions.cmp (get_or wider j h).session x.session) (sym (at_own h))
      ∙ greater sessions head_row wider wider_up j m h lt (omega (arith, n, le))

  pub over : (h : Head) → slice_get heads m ≡ Some h → sessions.cmp s h.session ≡ Less
  over h at =
      let is : get_or wider (m + 1) h ≡ h = get_or-insert_above heads m own h m (omega arith) l.within ∙ get_or_from_slice_get heads m h h at in
      let n : length wider ≡ length heads + 1 = length-insert heads m own l.within in
      let lt : m < length heads = slice_get_within heads m h at in
      ap (λ (x : Head). sessions.cmp x.session h.session) (sym (at_own h)) ∙ ap (λ (x : Head). sessions.cmp (get_or wider m h).session x.session) (sym is)
      ∙ greater sessions head_row wider wider_up m (m + 1) h (omega arith) (omega (arith, n, lt))

module _ {R : Type 0} (rests : Keys R) (keys : List (Option (Session × R))) (slots : List ℕ) (heads : List Head) (a : AreLists rests keys slots heads) (s : Session) (r : R) (m : ℕ)
    (l : LacksRowAt sessions head_row heads s m) where
  -- a row of an earlier session is before the key
  earlier : (j : ℕ) (e : (Session × R) × ℕ) → slice_get (rows_of keys slots) j ≡ Some e → (k : ℕ) (h : Head) → k < m → slice_get heads k ≡ Some h → h.session ≡ e.0.0
      → (row_keys rests).cmp e.0 (s, r) ≡ Less
  earlier j e at k h lt h_at same = ap (λ z. ordering_then z (rests.cmp e.0.1 r)) (ap (λ z. sessions.cmp z s) (sym same) ∙ below heads s m a.rising l k h lt h_at)

  -- a head from that place on leads behind those before it
  not_below : (g : Head) → slice_get heads m ≡ Some g → (k : ℕ) (h : Head) → m ≤ k → slice_get heads k ≡ Some h → sessions.cmp h.session g.session ≡ Less → ⊥
  not_below g is k h le at lt =
      elim (cases_eq k m) [
        | inl e ↦
            let both : Some h ≡ Some g = sym at ∙ ap (slice_get heads) e ∙ is in
            let same : h ≡ g = cc in
            both_ways _ (ap is_eq (ap (λ (x : Head). sessions.cmp x.session g.session) (sym same) ∙ lt)) (tied_self sessions g.session)
        | inr ne ↦
            let up : sessions.cmp (get_or heads m g).session (get_or heads k g).session ≡ Less =
            greater sessions head_row heads (passes _ a.rising) m k g (omega (arith, le, ne)) (slice_get_within heads k h at) in
            let later : sessions.cmp g.session h.session ≡ Less = ap (λ (x : Head). sessions.cmp x.session h.session) (sym (get_or_from_slice_get heads m g g is))
            ∙ ap (λ (x : Head). sessions.cmp (get_or heads m g).session x.session) (sym (get_or_from_slice_get heads k h g at)) ∙ up in
            both_ways _ (ap is_eq (sessions.total.trans h.session g.session h.session lt later)) (tied_self sessions h.session)
      ]

  pub gap_behind : IsGap rests keys slots (s, r) (option_map (λ (h : Head). h.first) (slice_get heads m))
  gap_behind = by (slice_get heads m) refl
    where
      by : (w : Option Head) → slice_get heads m ≡ w → IsGap rests keys slots (s, r) (option_map (λ (h : Head). h.first) w)
      by None none = is_end rests keys slots a.full a.sorted (s, r) (
          record {
            start = record {
              place = length slots;
              within = omega arith;
              is = nothing_at slots (length slots) (omega arith);
              before = λ j e lt at.
                  let h = head_of_row rests keys slots heads a j e at in
                  earlier j e at h.0 h.1 (omega (arith, slice_get_within heads h.0 h.1 h.2, nothing_past heads m none)) h.2 h.3;
            };
            here = λ e at lt. absurd (omega (arith, slice_get_within (rows_of keys slots) (length slots) e at, length_rows keys slots a.full));
          }
          )
      by (Some g) is =
          let f = first_found rests (rows_of keys slots) a.sorted g.session g.first (sym (a.firsts g.session) ∙ head_leads heads m g (passes _ a.rising) is) in
          let back = row_back keys slots f.place ((g.session, f.rest), g.first) a.full f.is in
          let later : sessions.cmp g.session s ≡ Greater = sessions.total.antisymm g.session s ∙ ap ordering_reverse (over heads s m a.rising l g is) in
          let key_later : (row_keys rests).cmp (g.session, f.rest) (s, r) ≡ Greater = ap (λ z. ordering_then z (rests.cmp f.rest r)) later in
          let place : IsPlace rests keys slots (s, r) (Some g.first) =
          record {
            start = record {
              place = f.place;
              within = let lt = slice_get_within slots f.place g.first back.0 in omega (arith, lt);
              is = back.0;
              before = λ j e lt at.
                  let h = head_of_row rests keys slots heads a j e at in
                  elim (cases_lt h.0 m) [
                    | inl low ↦ earlier j e at h.0 h.1 low h.2 h.3
                    | inr ge ↦ absurd (not_below g is h.0 h.1 ge h.2 (ap (λ z. sessions.cmp z g.session) h.3 ∙ f.before j e lt at))
                  ];
            };
            here = λ e at lt.
                let both : Some ((g.session, f.rest), g.first) ≡ Some e = sym f.is ∙ at in
                let same : ((g.session, f.rest), g.first) ≡ e = cc in
                let z : Greater ≡ Less = sym key_later ∙ ap (λ (x : (Session × R) × ℕ). (row_keys rests).cmp x.0 (s, r)) same ∙ lt in
                cc;
          }
          in
          is_gap rests keys slots a.full a.sorted (s, r) g.first (g.session, f.rest) place back.1 (ap is_eq key_later)
