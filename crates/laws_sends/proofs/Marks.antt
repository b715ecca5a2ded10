-- Marks that are used, where one session changed.
use Rattle.std.specs.Prelude.{◌≡◌, Bool, true, false, cond, nat_lt, not, ◌&&◌, List, [], ◌∷◌, ◌++◌, map as each, Option, Some, None, refl}
use Rattle.std.specs.List.{cons_option, filter, filter_map, flat_map, list_any}
use Rattle.std.specs.Ordering.{eq_by_cmp}
use Rattle.std.proofs.Common.{sym, ap, subst, inl, inr, ◌∙◌}
use Rattle.rsvp_base.specs.Members.{In}
use Rattle.rsvp_base.specs.Orders.{sessions, units}
use Rattle.rsvp_base.specs.Sets.{Set}
use Rattle.rsvp_base.specs.Table.{Table, changed_rows, has, keys, size}
use Rattle.rsvp_base.specs.declared.session.Session.{Session}
use Rattle.rsvp_base.specs.declared.style.Unit.{Unit as UnitOf}
use Rattle.rsvp_base.proofs.Changed.{changed_same, under_changed}
use Rattle.rsvp_base.proofs.Counts.{in_set_of, set_of_in}
use Rattle.rsvp_base.proofs.Filters.{same_test}
use Rattle.rsvp_base.proofs.Fronts.{in_keys, to_keys}
use Rattle.rsvp_base.proofs.Members.{any_in, in_any, in_each, in_filter, in_flat_map, to_each, to_filter, to_flat_map}
use Rattle.rsvp_base.proofs.SetLaws.{and_both, and_made}
use Rattle.rsvp_base.proofs.Tables.{either, tied_same, tied_self}
use Rattle.router_state.specs.StyleRules.Merge.{PartTable}
use Rattle.router_state.specs.StyleRules.Toward.{Request, toward as merged_toward}
use Rattle.router_state.specs.RouterRules.Facts.{Facts, SenderKey, Want, WantKey, resvs_in, want_keys, wants_in}
use Rattle.router_state.specs.RouterRules.Inputs.{Asked}
use Rattle.router_state.specs.RouterRules.Known.{Lane, lane_keys, lanes}
use Rattle.router_state.specs.RouterRules.NodeConfig.{NodeConfig, is_session}
use Rattle.router_state.specs.RouterRules.Requests.{resv_request, toward, want_request}
use Rattle.router_state.specs.RouterRules.Sends.{goes_on, is_changed, is_sent_new, marked_units, same_parts, unmarked, used_marks}
use Rattle.router_state.specs.State.{Said, said_at}
use Rattle.laws_sends.specs.Before.{lanes_by}
use Rattle.laws_sends.specs.Marks.{MarksDoNotMatter, MarksOfOneSession, is_new_at, marked_by, unmarked_in, used_at, used_in}
use Rattle.laws_sends.specs.Saying.{SessionLane, lane_by}
use Rattle.laws_sends.specs.SendsHere.{IsChangedAt, hops_in}
use Rattle.laws_sends.proofs.Elsewhere.{not_changed, toward_same}
use Rattle.laws_sends.proofs.Telling.{are_lanes}

-- ---- whichever marks are taken away
same_wants : (h : UnitOf × Want → Option Request) (g : UnitOf → Want → Want) → ((u : UnitOf) (w : Want) → h (u, g u w) ≡ h (u, w)) → (rows : List (UnitOf × Want))
    → filter_map h (changed_rows (λ u w. Some (g u w)) rows) ≡ filter_map h rows
same_wants h g same [] = refl
same_wants h g same (e ∷ es) = λ i. cons_option (same e.0 e.1 i) (same_wants h g same es i)

pub marks_do_not_matter : MarksDoNotMatter
marks_do_not_matter marks p f l =
    ap (λ ws. merged_toward l.style (filter_map (resv_request p f l) (resvs_in l.style f l.session).rows ++ ws))
    (ap (λ (t : Table units Want). filter_map (want_request f l) t.rows) (under_changed sessions units (marked_by marks) f.wants l.session)
    ∙ same_wants (want_request f l) (λ u w. record w { confirm = marks (l.session, u) w }) (λ u w. refl) (wants_in f l.session).rows)

-- of a list that is there where a test passes
when_true : {A : Type 0} (b : Bool) (xs : List A) (x : A) → In x (cond b xs []) → (b ≡ true) × In x xs
when_true true xs x i = (refl, i)
when_true false xs x i = absurd i

to_when : {A : Type 0} (b : Bool) (xs : List A) (x : A) → b ≡ true → In x xs → In x (cond b xs [])
to_when b xs x e i = subst (λ z. In x (cond z xs [])) (sym e) i

true_false : true ≡ false → ⊥
true_false e = cc

-- ---- one session
module _ (p : NodeConfig) (k : SenderKey) (f g : Facts) (said : Said) (at : IsChangedAt p k f g) (was : (l : Lane) → said_at said l ≡ toward p f l) where
  abbrev es : List SessionLane
  es = lanes_by (keys (hops_in g k.0))

  new_is : (e : SessionLane) → is_new_at p g k.0 said e ≡ is_sent_new p p f g (lane_by k.0 e)
  new_is e = ap (λ (v : PartTable). nat_lt 0 (size (toward p g (lane_by k.0 e))) && not (same_parts v (toward p g (lane_by k.0 e)))) (was (lane_by k.0 e))

  -- a lane that is told something new is of the session
  mine : (l : Lane) → is_sent_new p p f g l ≡ true → k.0 ≡ l.session
  mine l new =
      either (eq_by_cmp sessions.cmp k.0 l.session) (λ t. tied_same sessions k.0 l.session t)
      (λ off. let z : true ≡ false = sym (and_both (nat_lt 0 (size (toward p g l))) (is_changed p p f g l) new).1 ∙ not_changed p f g l (toward_same f g l (at.elsewhere l.session off) p) in
      absurd (true_false z))

  here : (l : Lane) → In l (keys (lanes g)) → is_sent_new p p f g l ≡ true → (e : SessionLane) × In e es × (l ≡ lane_by k.0 e)
  here l i new = (are_lanes k.0 g).all l (in_keys lane_keys (lanes g) l i) (sym (mine l new))

  there : (e : SessionLane) → In e es → In (lane_by k.0 e) (keys (lanes g))
  there e i = to_keys lane_keys (lanes g) (lane_by k.0 e) ((are_lanes k.0 g).only e i)

  abbrev every : Set want_keys
  every = used_marks p p f g None

  abbrev own : Set units
  own = used_in p g k.0 said es

  abbrev keys_at : Lane → List WantKey
  keys_at l = each (λ u. (l.session, u)) (marked_units p g l)

  same_used : (key : WantKey) → has every key ≡ (is_session k.0 key.0 && has own key.1)
  same_used key = same_test (has every key) (is_session k.0 key.0 && has own key.1) to from
    where
      to : has every key ≡ true → (is_session k.0 key.0 && has own key.1) ≡ true
      to h =
          let a = in_flat_map keys_at key (filter (is_sent_new p p f g) (keys (lanes g))) (set_of_in want_keys (flat_map keys_at (filter (is_sent_new p p f g) (keys (lanes g)))) key h) in
          let b = in_filter (is_sent_new p p f g) a.0 (keys (lanes g)) a.1 in
          let c = in_each (λ (u : UnitOf). (a.0.session, u)) key (marked_units p g a.0) a.2 in
          let e = here a.0 b.0 b.1 in
          let unit : In key.1 (marked_units p g (lane_by k.0 e.0)) = subst (λ z. In z (marked_units p g (lane_by k.0 e.0))) (λ i. (sym c.2 i).1) (subst (λ z. In c.0 (marked_units p g z)) e.2 c.1) in
          let new : is_new_at p g k.0 said e.0 ≡ true = new_is e.0 ∙ ap (is_sent_new p p f g) (sym e.2) ∙ b.1 in
          let used = to_flat_map (used_at p g k.0 said) e.0 key.1 es e.1 (to_when (is_new_at p g k.0 said e.0) (marked_units p g (lane_by k.0 e.0)) key.1 new unit) in
          and_made (is_session k.0 key.0) (has own key.1) (ap (eq_by_cmp sessions.cmp k.0) ((λ i. (c.2 i).0) ∙ sym (mine a.0 b.1)) ∙ tied_self sessions k.0)
          (in_set_of units (flat_map (used_at p g k.0 said) es) key.1 used)

      from : (is_session k.0 key.0 && has own key.1) ≡ true → has every key ≡ true
      from h =
          let s = tied_same sessions k.0 key.0 (and_both (is_session k.0 key.0) (has own key.1) h).0 in
          let a = in_flat_map (used_at p g k.0 said) key.1 es (set_of_in units (flat_map (used_at p g k.0 said) es) key.1 (and_both (is_session k.0 key.0) (has own key.1) h).1) in
          let b = when_true (is_new_at p g k.0 said a.0) (marked_units p g (lane_by k.0 a.0)) key.1 a.2 in
          let lane = to_filter (is_sent_new p p f g) (lane_by k.0 a.0) (keys (lanes g)) (there a.0 a.1) (sym (new_is a.0) ∙ b.0) in
          let unit : In key (keys_at (lane_by k.0 a.0)) = subst (λ z. In (z, key.1) (keys_at (lane_by k.0 a.0))) s
          (to_each (λ (u : UnitOf). (k.0, u)) key.1 (marked_units p g (lane_by k.0 a.0)) b.1) in
          in_set_of want_keys (flat_map keys_at (filter (is_sent_new p p f g) (keys (lanes g)))) key
          (to_flat_map keys_at (lane_by k.0 a.0) key (filter (is_sent_new p p f g) (keys (lanes g))) lane unit)

  same_goes_on : (a : Asked) → a.session ≡ k.0 → goes_on p p f g a ≡ list_any (is_new_at p g k.0 said) es
  same_goes_on a of = same_test (goes_on p p f g a) (list_any (is_new_at p g k.0 said) es) to from
    where
      test : Lane → Bool
      test l = is_session l.session a.session && is_sent_new p p f g l

      to : goes_on p p f g a ≡ true → list_any (is_new_at p g k.0 said) es ≡ true
      to h =
          let r = in_any test (keys (lanes g)) h in
          let new = (and_both (is_session r.0.session a.session) (is_sent_new p p f g r.0) r.2).1 in
          let e = here r.0 r.1 new in
          any_in (is_new_at p g k.0 said) e.0 es e.1 (new_is e.0 ∙ ap (is_sent_new p p f g) (sym e.2) ∙ new)

      from : list_any (is_new_at p g k.0 said) es ≡ true → goes_on p p f g a ≡ true
      from h =
          let r = in_any (is_new_at p g k.0 said) es h in
          any_in test (lane_by k.0 r.0) (keys (lanes g)) (there r.0 r.1) (and_made (is_session k.0 a.session) (is_sent_new p p f g (lane_by k.0 r.0))
          (ap (eq_by_cmp sessions.cmp k.0) of ∙ tied_self sessions k.0) (sym (new_is r.0) ∙ r.2))

pub marks_of_one_session : MarksOfOneSession
marks_of_one_session = record {
  used = λ p k f g said at was.
      changed_same want_keys (unmarked (used_marks p p f g None)) (unmarked_in k.0 (used_in p g k.0 said (lanes_by (keys (hops_in g k.0)))))
      (λ key w. λ i. Some (record w { confirm = w.confirm && not (same_used p k f g said at was key i) })) g.wants;
  goes_on = same_goes_on;
}
