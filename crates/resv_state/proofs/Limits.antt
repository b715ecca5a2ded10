-- What one reservation more makes of the limits.
use Rattle.std.proofs.Common.{◌≡◌, ◌≤◌, ◌+◌, ℕ, Bool, true, false, cond, not, ◌||◌, ◌&&◌, is_some, List, [], ◌∷◌, length, map as each, Option, Some, None, refl, sym, ap, ◌∙◌, arith, inl, inr}
use Rattle.std.specs.Prelude.{nat_le, ◌⊎◌}
use Rattle.std.specs.Cmp.{both_ways}
use Rattle.std.specs.List.{list_any}
use Rattle.std.specs.Option.{option_map}
use Rattle.std.specs.Ordering.{eq_by_cmp}
use Rattle.std.proofs.lemmas.Bool.{leb-true, le-leb}
use Rattle.std.proofs.lemmas.List.{length-map}
use Rattle.rsvp_base.specs.Members.{In}
use Rattle.rsvp_base.specs.Orders.{Names, sessions, senders}
use Rattle.rsvp_base.specs.Rows.{AreRows, table_of}
use Rattle.rsvp_base.specs.Sets.{set_of, union}
use Rattle.rsvp_base.specs.SessionLimits.{sessions_in}
use Rattle.rsvp_base.specs.Table.{Table, get, has, size, keys, put_in, changed, changed_rows}
use Rattle.rsvp_base.specs.Under.{under}
use Rattle.rsvp_base.specs.declared.session.Sender.{Sender}
use Rattle.rsvp_base.specs.declared.session.Session.{Session}
use Rattle.rsvp_base.specs.declared.style.StyleKind.{StyleKind}
use Rattle.rsvp_base.specs.declared.style.Unit.{Unit as UnitOf}
use Rattle.rsvp_base.proofs.Counts.{in_set_of, set_of_in, size_below, in_found, found_in}
use Rattle.rsvp_base.proofs.Members.{in_any, any_in, in_each, to_each, in_filter, to_filter, in_flat_map, to_flat_map}
use Rattle.rsvp_base.proofs.SetLaws.{and_both, and_made, or_assoc, or_false, or_left, or_right, has-with_key, has-union}
use Rattle.rsvp_base.proofs.Tables.{either, tied_same, tied_self, get-put_in_same, get-put_in_other, size-put_in}
use Rattle.rsvp_base.proofs.UnderLaws.{get-under}
use Rattle.style_rules.specs.Lines.{Line, LineKey, NextHop, line_keys, line_key, next_hops, next_hop}
use Rattle.style_rules.specs.Limits.{of_style, of_session, line_keys_of, sessions_of, next_hops_of, names_of, IsWithinLimits, within_limits}
use Rattle.rsvp_base.specs.Styles.{part_unit}
use Rattle.style_rules.proofs.Room.{within_told, within_tested, of_style_all}
use Rattle.style_rules.proofs.StyleLaws.{named_in, in_named}
use Rattle.std.specs.FinMap.Entries.{find}
use Rattle.soft_table.specs.Facts as soft_facts
use Rattle.soft_table.specs.Facts.{facts_by}
use Rattle.rsvp_base.proofs.SessionCounts as soft
use Rattle.rsvp_base.proofs.SessionCounts.{size_sessions}
use Rattle.soft_table.proofs.Keyed.{under_no_more}
use Rattle.soft_table.proofs.Valued.{get-valued, size-valued}
use Rattle.resv_state.specs.declared.fact.Held.{Held}
use Rattle.resv_state.specs.declared.fact.ResvFact.{ResvFact}
use Rattle.resv_state.specs.Resvs.{ResvFacts, resv_key, soft_resv, resv_lines, held_key, held_row, fact_of}
use Rattle.resv_state.specs.Walks.{Rest, rests, held_under, hops_in, is_full, with_names, with_hop}
use Rattle.soft_table.proofs.Told.{under-valued}
use Rattle.resv_state.proofs.Facts.{said, own_unit}

-- ---- what the lines say, by look-up
pub record Named (m : ResvFacts) (s : Session) (q : Sender) : Type 0 where
  pub rest : Rest
  pub row : ResvFact × ℕ
  pub at : get m (s, rest) ≡ Some row
  pub named : has row.0.part.senders q ≡ true

pub record Hopped (m : ResvFacts) (s : Session) (h : NextHop) : Type 0 where
  pub unit : UnitOf
  pub row : ResvFact × ℕ
  pub at : get m (s, (h, unit)) ≡ Some row

module _ (st : StyleKind) (m : ResvFacts) where
  line_in : (s : Session) (l : Line) → In l (of_session s (resv_lines st m)) → (r : Rest) × (e : ResvFact × ℕ) × (get m (s, r) ≡ Some e) × (l ≡ soft_resv st ((s, r), e))
  line_in s l i =
      let f = in_filter (λ (z : Line). eq_by_cmp sessions.cmp s z.session) l (resv_lines st m) i in
      let x = in_each (soft_resv st) l m.rows f.0 in
      let own : s ≡ x.0.0.0 = tied_same sessions s x.0.0.0 (ap (λ (z : Line). eq_by_cmp sessions.cmp s z.session) (sym x.2) ∙ f.1) in
      let key : ◌≡◌ {A = LineKey} (s, x.0.0.1) x.0.0 = λ i. (own i, x.0.0.1) in
      (x.0.0.1, x.0.1, ap (get m) key ∙ in_found line_keys m x.0.0 x.0.1 x.1, x.2 ∙ ap (λ k. soft_resv st (k, x.0.1)) (sym key))

  in_line : (s : Session) (r : Rest) (e : ResvFact × ℕ) → get m (s, r) ≡ Some e → In (soft_resv st ((s, r), e)) (of_session s (resv_lines st m))
  in_line s r e at =
      to_filter (λ (z : Line). eq_by_cmp sessions.cmp s z.session) (soft_resv st ((s, r), e)) (resv_lines st m) (to_each (soft_resv st) ((s, r), e) m.rows (found_in line_keys m (s, r) e at))
      (tied_self sessions s)

  pub names_told : (s : Session) (q : Sender) → has (names_of (of_session s (resv_lines st m))) q ≡ true → Named m s q
  names_told s q h =
      let f = in_flat_map (λ (l : Line). keys l.part.senders) q (of_session s (resv_lines st m)) (set_of_in senders _ q h) in
      let x = line_in s f.0 f.1 in
      record { rest = x.0; row = x.1; at = x.2; named = ap (λ (l : Line). has l.part.senders q) (sym x.3) ∙ in_named f.0.part q f.2 }

  pub names_made : (s : Session) (q : Sender) → Named m s q → has (names_of (of_session s (resv_lines st m))) q ≡ true
  names_made s q n =
      let l = soft_resv st ((s, n.rest), n.row) in
      in_set_of senders _ q (to_flat_map (λ (l : Line). keys l.part.senders) l q (of_session s (resv_lines st m)) (in_line s n.rest n.row n.at) (named_in l.part q n.named))

  pub hops_told : (s : Session) (h : NextHop) → has (next_hops_of (of_session s (resv_lines st m))) h ≡ true → Hopped m s h
  hops_told s h is =
      let f = in_each next_hop h (of_session s (resv_lines st m)) (set_of_in next_hops _ h is) in
      let x = line_in s f.0 f.1 in
      let own : x.0.0 ≡ h = ap next_hop (sym x.3) ∙ sym f.2 in
      record { unit = x.0.1; row = x.1; at = ap (λ (z : NextHop). get m (s, (z, x.0.1))) (sym own) ∙ x.2 }

  pub hops_made : (s : Session) (h : NextHop) → Hopped m s h → has (next_hops_of (of_session s (resv_lines st m))) h ≡ true
  hops_made s h n = in_set_of next_hops _ h (to_each next_hop (soft_resv st ((s, (h, n.unit)), n.row)) (of_session s (resv_lines st m)) (in_line s (h, n.unit) n.row n.at))

  -- as many lines as keys
  pub lines_counted : size (line_keys_of (resv_lines st m)) ≡ size m
  lines_counted =
      let less = size_below line_keys (line_keys_of (resv_lines st m)) m (λ k h.
      let f = in_each line_key k (resv_lines st m) (set_of_in line_keys _ k h) in
      let x = in_each (soft_resv st) f.0 m.rows f.1 in
      let own : x.0.0 ≡ k = ap line_key (sym x.2) ∙ sym f.2 in
      ap (λ z. has m z) (sym own) ∙ ap is_some (in_found line_keys m x.0.0 x.0.1 x.1)) in
      let more = size_below line_keys m (line_keys_of (resv_lines st m)) (λ k h.
      let e = some_of (get m k) h in
      in_set_of line_keys _ k (to_each line_key (soft_resv st (k, e.0)) (resv_lines st m) (to_each (soft_resv st) (k, e.0) m.rows (found_in line_keys m k e.0 e.1)))) in
      omega (arith, less, more)
    where
      some_of : (w : Option (ResvFact × ℕ)) → is_some w ≡ true → (e : ResvFact × ℕ) × (w ≡ Some e)
      some_of None h = cc
      some_of (Some e) h = (e, refl)

  pub sessions_counted : sessions_of (resv_lines st m) ≡ sessions_in rests m
  sessions_counted = ap (λ ss. set_of {o = sessions} ss) (by m.rows)
    where
      by : (es : List (LineKey × (ResvFact × ℕ))) → each (λ (l : Line). l.session) (each (soft_resv st) es) ≡ each (λ (k : LineKey). k.0) (each (λ (e : LineKey × (ResvFact × ℕ)). e.0) es)
      by [] = refl
      by (e ∷ es) = ap (λ ss. e.0.0 ∷ ss) (by es)

  -- all lines have the style
  pub one_style : of_style st (resv_lines st m) ≡ resv_lines st m
  one_style = of_style_all st (resv_lines st m) (λ l i. let x = in_each (soft_resv st) l m.rows i in ap (λ (z : Line). z.style) x.2)

-- ---- the walks say so too
abbrev pub is_beside : Rest → Sender → Rest × (Held × ℕ) → Bool
is_beside r q e = not (eq_by_cmp rests.cmp r e.0) && has e.1.0.fact.part.senders q

has-with_names : (r : Rest) (q : Sender) (es : List (Rest × (Held × ℕ))) (names : Names) → has (with_names r names es) q ≡ (has names q || list_any (is_beside r q) es)
has-with_names r q [] names = sym (or_false (has names q))
has-with_names r q (e ∷ es) names = by (eq_by_cmp rests.cmp r e.0) (λ n. has-with_names r q es n)
  where
    by : (b : Bool) → ((n : Names) → has (with_names r n es) q ≡ (has n q || list_any (is_beside r q) es))
        → has (with_names r (cond b names (union names e.1.0.fact.part.senders)) es) q ≡ (has names q || ((not b && has e.1.0.fact.part.senders q) || list_any (is_beside r q) es))
    by true ih = ih names
    by false ih = ih (union names e.1.0.fact.part.senders) ∙ ap (λ b. b || list_any (is_beside r q) es) (has-union senders names e.1.0.fact.part.senders q)
        ∙ or_assoc (has names q) (has e.1.0.fact.part.senders q) (list_any (is_beside r q) es)

some_said : (w : Option (Held × ℕ)) (e : ResvFact × ℕ) → option_map said w ≡ Some e → (h : Held × ℕ) × (w ≡ Some h) × (said h ≡ e)
some_said None e is = cc
some_said (Some h) e is = (h, refl, (cc))

module _ (st : StyleKind) (fs : List (Held × ℕ)) (up : AreRows line_keys held_row fs) (s : Session) (r : Rest) (v : ResvFact × ℕ) where
  abbrev t : Table line_keys (Held × ℕ)
  t = table_of line_keys held_row fs up

  abbrev m : ResvFacts
  m = changed fact_of t

  abbrev m2 : ResvFacts
  m2 = put_in m (s, r) v

  abbrev us : List (Rest × (Held × ℕ))
  us = held_under s fs

  row_in : (q : Rest) (e : ResvFact × ℕ) → get m (s, q) ≡ Some e → (h : Held × ℕ) × In (q, h) us × (said h ≡ e)
  row_in q e at =
      let h = some_said (get t (s, q)) e (sym (get-valued line_keys said t (s, q)) ∙ at) in
      (h.0, found_in rests (under sessions rests t s) q h.0 (get-under sessions rests t s q ∙ h.1), h.2)

  in_row : (e : Rest × (Held × ℕ)) → In e us → get m (s, e.0) ≡ Some (said e.1)
  in_row e i = get-valued line_keys said t (s, e.0) ∙ ap (option_map said) (sym (get-under sessions rests t s e.0) ∙ in_found rests (under sessions rests t s) e.0 e.1 i)

  -- a row of the table with one more is the new one, or another of before
  after : (q : Rest) (e : ResvFact × ℕ) → get m2 (s, q) ≡ Some e → ((q ≡ r) × (e ≡ v)) ⊎ ((eq_by_cmp rests.cmp r q ≡ false) × (get m (s, q) ≡ Some e))
  after q e at =
      either (eq_by_cmp rests.cmp r q)
      (λ tie.
      let is = tied_same rests r q tie in
      let new : Some v ≡ Some e = sym (get-put_in_same line_keys m (s, r) v) ∙ ap (λ z. get m2 (s, z)) is ∙ at in
      let same : v ≡ e = cc in
      inl (sym is, sym same))
      (λ apart. inr (apart, sym (get-put_in_other line_keys m (s, r) v (s, q) (other q apart)) ∙ at))
    where
      other : (q : Rest) → eq_by_cmp rests.cmp r q ≡ false → eq_by_cmp line_keys.cmp (s, q) (s, r) ≡ false
      other q apart =
          either (eq_by_cmp line_keys.cmp (s, q) (s, r))
          (λ tie.
          let is : q ≡ r = ap (λ (k : LineKey). k.1) (tied_same line_keys (s, q) (s, r) tie) in
          let z : true ≡ false = sym (tied_self rests r) ∙ ap (eq_by_cmp rests.cmp r) (sym is) ∙ apart in
          absurd (cc))
          (λ f. f)

  before : (q : Rest) (e : ResvFact × ℕ) → get m (s, q) ≡ Some e → (d : ResvFact × ℕ) × (get m2 (s, q) ≡ Some d) × ((eq_by_cmp rests.cmp r q ≡ false) → d ≡ e)
  before q e at =
      either (eq_by_cmp line_keys.cmp (s, q) (s, r))
      (λ tie.
      let is : r ≡ q = ap (λ (k : LineKey). k.1) (sym (tied_same line_keys (s, q) (s, r) tie)) in
      (v, ap (λ z. get m2 (s, z)) (sym is) ∙ get-put_in_same line_keys m (s, r) v, λ apart. let z : true ≡ false = sym (tied_self rests r) ∙ ap (eq_by_cmp rests.cmp r) is ∙ apart in absurd (cc)))
      (λ apart. (e, get-put_in_other line_keys m (s, r) v (s, q) apart ∙ at, λ _. refl))

  names_in : (q : Sender) → has (names_of (of_session s (resv_lines st m2))) q ≡ true → has (with_names r v.0.part.senders us) q ≡ true
  names_in q h =
      let n = names_told st m2 s q h in
      has-with_names r q us v.0.part.senders ∙ elim (after n.rest n.row n.at) [
        | inl p ↦ or_left (has v.0.part.senders q) (list_any (is_beside r q) us) (ap (λ (e : ResvFact × ℕ). has e.0.part.senders q) (sym p.1) ∙ n.named)
        | inr p ↦
            let h = row_in n.rest n.row p.1 in
            or_right (has v.0.part.senders q) (list_any (is_beside r q) us) (any_in (is_beside r q) (n.rest, h.0) us h.1
            (and_made _ _ (ap not p.0) (ap (λ (e : ResvFact × ℕ). has e.0.part.senders q) h.2 ∙ n.named)))
      ]

  names_out : (q : Sender) → has (with_names r v.0.part.senders us) q ≡ true → has (names_of (of_session s (resv_lines st m2))) q ≡ true
  names_out q h =
      either (has v.0.part.senders q)
      (λ own. names_made st m2 s q (record { rest = r; row = v; at = get-put_in_same line_keys m (s, r) v; named = own }))
      (λ no_own.
      let e = in_any (is_beside r q) us (ap (λ b. b || list_any (is_beside r q) us) (sym no_own) ∙ sym (has-with_names r q us v.0.part.senders) ∙ h) in
      let parts = and_both (not (eq_by_cmp rests.cmp r e.0.0)) (has e.0.1.0.fact.part.senders q) e.2 in
      let d = before e.0.0 (said e.0.1) (in_row e.0 e.1) in
      names_made st m2 s q (record { rest = e.0.0; row = d.0; at = d.1; named = ap (λ (x : ResvFact × ℕ). has x.0.part.senders q) (d.2 (out _ parts.0)) ∙ parts.1 }))
    where
      out : (b : Bool) → not b ≡ true → b ≡ false
      out true e = cc
      out false e = refl

  pub names_sized : size (names_of (of_session s (resv_lines st m2))) ≡ size (with_names r v.0.part.senders us)
  names_sized =
      let a = size_below senders (names_of (of_session s (resv_lines st m2))) (with_names r v.0.part.senders us) names_in in
      let b = size_below senders (with_names r v.0.part.senders us) (names_of (of_session s (resv_lines st m2))) names_out in
      omega (arith, a, b)

  hops_in2 : (h : NextHop) → has (next_hops_of (of_session s (resv_lines st m2))) h ≡ true → has (with_hop r.0 us) h ≡ true
  hops_in2 h is =
      let n = hops_told st m2 s h is in
      has-with_key next_hops (set_of (hops_in us)) r.0 h ∙ elim (after (h, n.unit) n.row n.at) [
        | inl p ↦ or_left _ (has (set_of {o = next_hops} (hops_in us)) h) (ap (eq_by_cmp next_hops.cmp h) (sym (ap (λ (q : Rest). q.0) p.0)) ∙ tied_self next_hops h)
        | inr p ↦
            let x = row_in (h, n.unit) n.row p.1 in
            or_right (eq_by_cmp next_hops.cmp h r.0) _ (in_set_of next_hops (hops_in us) h (to_each (λ (e : Rest × (Held × ℕ)). e.0.0) ((h, n.unit), x.0) us x.1))
      ]

  hops_out : (h : NextHop) → has (with_hop r.0 us) h ≡ true → has (next_hops_of (of_session s (resv_lines st m2))) h ≡ true
  hops_out h is =
      either (eq_by_cmp next_hops.cmp h r.0)
      (λ tie.
      let own : h ≡ r.0 = tied_same next_hops h r.0 tie in
      hops_made st m2 s h (record { unit = r.1; row = v; at = ap (λ z. get m2 (s, (z, r.1))) own ∙ get-put_in_same line_keys m (s, r) v }))
      (λ apart.
      let e = in_each (λ (e : Rest × (Held × ℕ)). e.0.0) h us (set_of_in next_hops (hops_in us) h
      (ap (λ b. b || has (set_of {o = next_hops} (hops_in us)) h) (sym apart) ∙ sym (has-with_key next_hops (set_of (hops_in us)) r.0 h) ∙ is)) in
      let d = before e.0.0 (said e.0.1) (in_row e.0 e.1) in
      hops_made st m2 s h (record { unit = e.0.0.1; row = d.0; at = ap (λ z. get m2 (s, (z, e.0.0.1))) e.2 ∙ d.1 }))

  pub hops_sized : size (next_hops_of (of_session s (resv_lines st m2))) ≡ size (with_hop r.0 us)
  hops_sized =
      let a = size_below next_hops (next_hops_of (of_session s (resv_lines st m2))) (with_hop r.0 us) hops_in2 in
      let b = size_below next_hops (with_hop r.0 us) (next_hops_of (of_session s (resv_lines st m2))) hops_out in
      omega (arith, a, b)

  -- other sessions stay as they are
  elsewhere : (x : Session) → eq_by_cmp sessions.cmp x s ≡ false → (q : Rest) (e : ResvFact × ℕ) → get m2 (x, q) ≡ Some e → get m (x, q) ≡ Some e
  elsewhere x apart q e at = sym (get-put_in_other line_keys m (s, r) v (x, q) other) ∙ at
    where
      other : eq_by_cmp line_keys.cmp (x, q) (s, r) ≡ false
      other =
          either (eq_by_cmp line_keys.cmp (x, q) (s, r))
          (λ tie.
          let is : x ≡ s = ap (λ (k : LineKey). k.0) (tied_same line_keys (x, q) (s, r) tie) in
          let z : true ≡ false = sym (tied_self sessions s) ∙ ap (λ w. eq_by_cmp sessions.cmp w s) (sym is) ∙ apart in
          absurd (cc))
          (λ f. f)

  abbrev fits : Bool
  fits = nat_le (size m2) 1024 && (nat_le (size (sessions_in rests m2)) 32 && (nat_le (size (with_hop r.0 us)) 64 && nat_le (size (with_names r v.0.part.senders us)) 16))

  told : within_limits st (resv_lines st m2) ≡ true → fits ≡ true
  told h =
      let w = within_told st (resv_lines st m2) h in
      let a = ap (λ ls. size (line_keys_of ls)) (one_style st m2) ∙ lines_counted st m2 in
      let b = ap (λ ls. size (sessions_of ls)) (one_style st m2) ∙ ap size (sessions_counted st m2) in
      let c = ap (λ ls. size (next_hops_of (of_session s ls))) (one_style st m2) ∙ hops_sized in
      let d = ap (λ ls. size (names_of (of_session s ls))) (one_style st m2) ∙ names_sized in
      let lines : size m2 ≤ 1024 = omega (arith, a, w.lines) in
      let all : size (sessions_in rests m2) ≤ 32 = omega (arith, b, w.sessions) in
      let hops : size (with_hop r.0 us) ≤ 64 = omega (arith, c, w.next_hops s) in
      let names : size (with_names r v.0.part.senders us) ≤ 16 = omega (arith, d, w.names s) in
      and_made _ _ (le-leb (size m2) 1024 lines) (and_made _ _ (le-leb (size (sessions_in rests m2)) 32 all)
      (and_made _ _ (le-leb (size (with_hop r.0 us)) 64 hops) (le-leb (size (with_names r v.0.part.senders us)) 16 names)))

  pub so_within : IsWithinLimits st (resv_lines st m) → fits ≡ true → IsWithinLimits st (resv_lines st m2)
  so_within w h =
      let p = and_both (nat_le (size m2) 1024) _ h in
      let p2 = and_both (nat_le (size (sessions_in rests m2)) 32) _ p.1 in
      let p3 = and_both (nat_le (size (with_hop r.0 us)) 64) _ p2.1 in
      let a = ap (λ ls. size (line_keys_of ls)) (one_style st m2) ∙ lines_counted st m2 in
      let b = ap (λ ls. size (sessions_of ls)) (one_style st m2) ∙ ap size (sessions_counted st m2) in
      let lines = leb-true _ 1024 p.0 in
      let all = leb-true _ 32 p2.0 in
      record {
        lines = omega (arith, a, lines);
        sessions = omega (arith, b, all);
        next_hops = λ x. either (eq_by_cmp sessions.cmp x s)
            (λ tie.
            let c = ap (λ z. size (next_hops_of (of_session z (of_style st (resv_lines st m2))))) (tied_same sessions x s tie) ∙ ap (λ ls. size (next_hops_of (of_session s ls))) (one_style st m2)
            ∙ hops_sized in
            let n = leb-true _ 64 p3.0 in
            omega (arith, c, n))
            (λ apart.
            let less = size_below next_hops (next_hops_of (of_session x (resv_lines st m2))) (next_hops_of (of_session x (resv_lines st m)))
            (λ h is. let n = hops_told st m2 x h is in hops_made st m x h (record { unit = n.unit; row = n.row; at = elsewhere x apart (h, n.unit) n.row n.at })) in
            omega (arith, less, w.next_hops x, ap (λ ls. size (next_hops_of (of_session x ls))) (one_style st m2), ap (λ ls. size (next_hops_of (of_session x ls))) (one_style st m)));
        names = λ x. either (eq_by_cmp sessions.cmp x s)
            (λ tie.
            let d = ap (λ z. size (names_of (of_session z (of_style st (resv_lines st m2))))) (tied_same sessions x s tie) ∙ ap (λ ls. size (names_of (of_session s ls))) (one_style st m2)
            ∙ names_sized in
            let n = leb-true _ 16 p3.1 in
            omega (arith, d, n))
            (λ apart.
            let less = size_below senders (names_of (of_session x (resv_lines st m2))) (names_of (of_session x (resv_lines st m)))
            (λ q is. let n = names_told st m2 x q is in names_made st m x q (record { rest = n.rest; row = n.row; at = elsewhere x apart n.rest n.row n.at; named = n.named })) in
            omega (arith, less, w.names x, ap (λ ls. size (names_of (of_session x ls))) (one_style st m2), ap (λ ls. size (names_of (of_session x ls))) (one_style st m)));
      }

  -- the limits, as the walks tell them
  pub fits_is : IsWithinLimits st (resv_lines st m) → fits ≡ within_limits st (resv_lines st m2)
  fits_is w = both_ways fits (within_limits st (resv_lines st m2)) (λ h. within_tested st (resv_lines st m2) (so_within w h)) told

  -- ---- numbers of the table below
  pub facts_many : size m ≡ length fs
  facts_many = size-valued line_keys said t ∙ length-map fs held_row

  is_some_said : (w : Option (Held × ℕ)) → is_some (option_map said w) ≡ is_some w
  is_some_said None = refl
  is_some_said (Some h) = refl

  pub one_fact : nat_le (cond (is_some (find line_keys.cmp (s, r) (facts_by held_key fs))) (length fs) (length fs + 1)) 1024 ≡ nat_le (size m2) 1024
  one_fact =
      ap (λ n. nat_le n 1024) (sym (size-put_in line_keys m (s, r) v ∙ ap (λ b. cond b (size m) (size m + 1)) (ap is_some (get-valued line_keys said t (s, r)) ∙ is_some_said (get t (s, r)))
      ∙ ap (λ n. cond (is_some (get t (s, r))) n (n + 1)) facts_many))

  full_said : (es : List (Rest × (Held × ℕ))) → soft.is_full (changed_rows (λ k e. Some (said e)) es) ≡ is_full es
  full_said [] = refl
  full_said (e ∷ es) = refl

  pub sessions_many : size (sessions_in rests m) ≡ size (soft_facts.sessions_in held_key fs)
  sessions_many = ap (λ ss. size (set_of {o = sessions} ss)) (by fs)
    where
      by : (gs : List (Held × ℕ)) → each (λ (k : LineKey). k.0) (each (λ (e : LineKey × (ResvFact × ℕ)). e.0) (changed_rows fact_of (each held_row gs))) ≡ each (λ (e : Held × ℕ). (held_key e.0).0) gs
      by [] = refl
      by (g ∷ gs) = ap (λ ss. g.0.fact.session ∷ ss) (by gs)

  pub one_session : nat_le (cond (is_full us) (size (soft_facts.sessions_in held_key fs)) (size (soft_facts.sessions_in held_key fs) + 1)) 32 ≡ nat_le (size (sessions_in rests m2)) 32
  one_session =
      ap (λ n. nat_le n 32) (sym (size_sessions rests m s r v ∙ ap (λ b. cond b (size (sessions_in rests m)) (size (sessions_in rests m) + 1))
      (ap (λ (z : Table rests (ResvFact × ℕ)). soft.is_full z.rows) (under-valued said sessions rests t s) ∙ full_said us)
      ∙ ap (λ n. cond (is_full us) n (n + 1)) sessions_many))

  -- within the limits there are few
  pub few_facts : IsWithinLimits st (resv_lines st m) → length fs ≤ 1024
  few_facts w = omega (arith, facts_many, lines_counted st m, w.lines, ap (λ ls. size (line_keys_of ls)) (one_style st m))

  pub few_sessions : IsWithinLimits st (resv_lines st m) → size (soft_facts.sessions_in held_key fs) ≤ 32
  few_sessions w = omega (arith, sessions_many, ap size (sessions_counted st m), w.sessions, ap (λ ls. size (sessions_of ls)) (one_style st m))

  -- a table that one more is within the limits of is not full
  pub never_full : within_limits st (resv_lines st m2) ≡ true → find line_keys.cmp (s, r) (facts_by held_key fs) ≡ None → length fs ≡ 1024 → ⊥
  never_full h none many =
      let w = within_told st (resv_lines st m2) h in
      let a = ap (λ ls. size (line_keys_of ls)) (one_style st m2) ∙ lines_counted st m2 in
      let new : is_some (get m (s, r)) ≡ false = ap is_some (get-valued line_keys said t (s, r)) ∙ is_some_said (get t (s, r)) ∙ ap is_some none in
      let more = size-put_in line_keys m (s, r) v ∙ ap (λ b. cond b (size m) (size m + 1)) new in
      omega (arith, a, more, facts_many, many, w.lines)

-- no refusal below where the map with it is within the limits
pub not_refused : (fs : List (Held × ℕ)) (up : AreRows line_keys held_row fs) (st : StyleKind) (f : ResvFact) (left : ℕ) (u : UnitOf) → u ≡ part_unit st f.part → (now : ResvFacts)
    → changed fact_of (table_of line_keys held_row fs up) ≡ now → within_limits st (resv_lines st (put_in now (resv_key st f) (f, left))) ≡ true
    → (room : ℕ) → room ≡ 1024 → (find line_keys.cmp (held_key (record { unit = u; fact = f })) (facts_by held_key fs) ≡ None) × (length fs ≡ room) → ⊥
not_refused fs up st f left u unit now is fits room many why =
    let k = resv_key st f in
    never_full st fs up k.0 k.1 (f, left) (ap (λ (z : ResvFacts). within_limits st (resv_lines st (put_in z k (f, left)))) is ∙ fits)
    (ap (λ z. find line_keys.cmp z (facts_by held_key fs)) (sym (own_unit st f u unit)) ∙ why.0) (why.1 ∙ many)

-- a session has no more than the table
pub few_of_session : (st : StyleKind) (m : ResvFacts) (s : Session) → IsWithinLimits st (resv_lines st m) → size (under sessions rests m s) ≤ 1024
few_of_session st m s w = omega (arith, lines_counted st m, w.lines, ap (λ ls. size (line_keys_of ls)) (one_style st m), under_no_more sessions rests s m.rows)
