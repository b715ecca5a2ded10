-- A reservation that is put in place of one with all of its names takes no room.
use Rattle.std.proofs.Common.{◌≡◌, ◌≤◌, ℕ, true, Option, Some, None, is_some, refl, sym, ap, subst, ◌∙◌, arith}
use Rattle.std.specs.Option.{option_map}
use Rattle.std.specs.Ordering.{eq_by_cmp}
use Rattle.rsvp_base.specs.Orders.{sessions, senders}
use Rattle.rsvp_base.specs.Sets.{IsWithin}
use Rattle.rsvp_base.specs.Table.{get, has, put_in, size}
use Rattle.rsvp_base.specs.declared.style.StyleKind.{StyleKind}
use Rattle.rsvp_base.proofs.Counts.{set_of_in, in_set_of, in_found, found_in, size_below}
use Rattle.rsvp_base.proofs.Members.{in_each, to_each}
use Rattle.rsvp_base.proofs.Tables.{either, tied_same, get-put_in_same, get-put_in_other}
use Rattle.style_rules.specs.Limits.{of_session, line_keys_of, sessions_of, next_hops_of, names_of, IsWithinLimits}
use Rattle.style_rules.specs.Lines.{Line, LineKey, line_keys, next_hops}
use Rattle.resv_state.specs.declared.fact.ResvFact.{ResvFact}
use Rattle.resv_state.specs.Resvs.{ResvFacts, soft_resv, resv_lines}
use Rattle.resv_state.proofs.Limits.{lines_counted, one_style, hops_told, hops_made, names_told, names_made}

-- what an option that came of another holds
pub held_by : {A B : Type 0} (w : Option (A × B)) (a : A) → option_map (λ (e : A × B). e.0) w ≡ Some a → (e : A × B) × (w ≡ Some e) × (e.0 ≡ a)
held_by None a is = cc
held_by (Some e) a is = (e, refl, (cc))

there : {A : Type 0} (w : Option A) → is_some w ≡ true → (x : A) × (w ≡ Some x)
there None h = cc
there (Some x) h = (x, refl)

module _ (st : StyleKind) (m : ResvFacts) (k : LineKey) (v was : ResvFact × ℕ) (stood : get m k ≡ Some was) (named : IsWithin v.0.part.senders was.0.part.senders) where
  abbrev m2 : ResvFacts
  m2 = put_in m k v

  -- each reservation after has one before under its key, with all of its names
  before : (q : LineKey) (e : ResvFact × ℕ) → get m2 q ≡ Some e → (d : ResvFact × ℕ) × (get m q ≡ Some d) × IsWithin e.0.part.senders d.0.part.senders
  before q e at =
      either (eq_by_cmp line_keys.cmp q k)
      (λ tie.
      let is : q ≡ k = tied_same line_keys q k tie in
      let new : Some v ≡ Some e = sym (get-put_in_same line_keys m k v) ∙ ap (get m2) (sym is) ∙ at in
      let same : v ≡ e = cc in
      (was, ap (get m) is ∙ stood, subst (λ (x : ResvFact × ℕ). IsWithin x.0.part.senders was.0.part.senders) same named))
      (λ apart. (e, sym (get-put_in_other line_keys m k v q apart) ∙ at, λ s h. h))

  lines_less : size m2 ≤ size m
  lines_less = size_below line_keys m2 m (λ q h. let e = there (get m2 q) h in let d = before q e.0 e.1 in ap is_some d.1)

  sessions_less : size (sessions_of (resv_lines st m2)) ≤ size (sessions_of (resv_lines st m))
  sessions_less =
      size_below sessions (sessions_of (resv_lines st m2)) (sessions_of (resv_lines st m)) (λ x h.
      let l = in_each (λ (l : Line). l.session) x (resv_lines st m2) (set_of_in sessions _ x h) in
      let r = in_each (soft_resv st) l.0 m2.rows l.1 in
      let d = before r.0.0 r.0.1 (in_found line_keys m2 r.0.0 r.0.1 r.1) in
      let own : r.0.0.0 ≡ x = ap (λ (z : Line). z.session) (sym r.2) ∙ sym l.2 in
      ap (has (sessions_of (resv_lines st m))) (sym own)
      ∙ in_set_of sessions _ r.0.0.0 (to_each (λ (l : Line). l.session) (soft_resv st (r.0.0, d.0)) (resv_lines st m)
      (to_each (soft_resv st) (r.0.0, d.0) m.rows (found_in line_keys m r.0.0 d.0 d.1))))

  pub still_within : IsWithinLimits st (resv_lines st m) → IsWithinLimits st (resv_lines st m2)
  still_within w =
      record {
        lines = omega (arith, ap (λ ls. size (line_keys_of ls)) (one_style st m2), lines_counted st m2, ap (λ ls. size (line_keys_of ls)) (one_style st m), lines_counted st m, lines_less, w.lines);
        sessions = omega (arith, ap (λ ls. size (sessions_of ls)) (one_style st m2), ap (λ ls. size (sessions_of ls)) (one_style st m), sessions_less, w.sessions);
        next_hops = λ x.
            let less = size_below next_hops (next_hops_of (of_session x (resv_lines st m2))) (next_hops_of (of_session x (resv_lines st m)))
            (λ h is. let n = hops_told st m2 x h is in let d = before (x, (h, n.unit)) n.row n.at in hops_made st m x h (record { unit = n.unit; row = d.0; at = d.1 })) in
            omega (arith, less, w.next_hops x, ap (λ ls. size (next_hops_of (of_session x ls))) (one_style st m2), ap (λ ls. size (next_hops_of (of_session x ls))) (one_style st m));
        names = λ x.
            let less = size_below senders (names_of (of_session x (resv_lines st m2))) (names_of (of_session x (resv_lines st m)))
            (λ q is. let n = names_told st m2 x q is in let d = before (x, n.rest) n.row n.at in names_made st m x q (record { rest = n.rest; row = d.0; at = d.1; named = d.2 q n.named })) in
            omega (arith, less, w.names x, ap (λ ls. size (names_of (of_session x ls))) (one_style st m2), ap (λ ls. size (names_of (of_session x ls))) (one_style st m));
      }
