use Rattle.std.specs.Prelude.{is_some, map as each, ◌≡◌, Some, false}
use Rattle.std.proofs.Common.{set, sym, ap, subst, ◌∙◌}
use Rattle.rsvp_base.specs.Orders.{units}
use Rattle.rsvp_base.specs.SessionLimits.{IsWithinSessionLimits, sessions_in}
use Rattle.rsvp_base.specs.Table.{get, put_in, same_rows, size}
use Rattle.rsvp_base.proofs.Rows.{get_absent, get_found, put_over}
use Rattle.router_rules.specs.Facts.{Want, WantKey, Wants, want_keys}
use Rattle.local_state.specs.Wants.{want_of, want_row}
use Rattle.local_state.specs.declared.wants.LocalWant.{LocalWant}
use Rattle.local_state.proofs.Held.{held_rows, over_count, over_within}
use Rattle.local_state.proofs.Owned.{unmarked_is, unmarked_none}
use Rattle.local_state.proofs.wants.LocalWants.unmark.Goals as goal
use Rattle.local_state.proofs.wants.LocalWants.unmark.Goals.{After-index_mut}

-- the want as it was, and without its mark
found : (c : After-index_mut) → get c.args.self.now (c.args.session, c.args.unit) ≡ Some (want_of c.index_mut.result.now)
found c =
    get_found want_keys want_row c.self.inside.rows.items c.self.inside.rising c.args.self.now c.self.view_is (c.args.session, c.args.unit) c.in-Ok.at c.index_mut.result.now
    (rw c.as_slice.ensures.value at c.in-Ok.ensures.there)
    ∙ ap (λ (z : LocalWant). Some (want_of z)) (sym c.index_mut.ensures.value)

over : (c : After-index_mut) → each want_row (set c.self.inside.rows.items c.in-Ok.at (record c.index_mut.result.now { confirm = false }))
    ≡ (put_in c.args.self.now (c.args.session, c.args.unit) (record (want_of c.index_mut.result.now) { confirm = false })).rows
over c =
    let x = c.index_mut.result.now in
    let k : WantKey = (c.args.session, c.args.unit) in
    let unmarked : Want = record (want_of x) { confirm = false } in
    let stands = rw c.as_slice.ensures.value at c.in-Ok.ensures.there in
    let key : (want_row x).0 ≡ k = ap (λ (z : LocalWant). (want_row z).0) c.index_mut.ensures.value ∙ stands.key x in
    put_over want_keys want_row c.self.inside.rows.items c.self.inside.rising c.args.self.now c.self.view_is k unmarked (record x { confirm = false }) c.in-Ok.at (λ i. (key i, unmarked)) stands

pub invariant_of-self-inside : goal.invariant_of-self-inside
invariant_of-self-inside c =
    let d = (goal.at.invariant_of-self-inside c).After-index_mut in
    let m = c.args.self.now in
    let unmarked : Want = record (want_of c.index_mut.result.now) { confirm = false } in
    let within = subst (λ (t : Wants). IsWithinSessionLimits units t) c.self.view_is c.self.inside.within in
    let number = c.self.inside.counted ∙ ap (λ (t : Wants). size (sessions_in units t)) c.self.view_is in
    let there = ap is_some (found d) in
    let h = held_rows units want_row _ (put_in m (c.args.session, c.args.unit) unmarked) c.self.inside.held (over d) (over_within units m within c.args.session c.args.unit unmarked there)
    (number ∙ sym (over_count units m within c.args.session c.args.unit unmarked there)) in
    (h.0, (h.1, (h.2, (c.self.inside.room, tt))))

pub returns-in-Ok : goal.returns-in-Ok
returns-in-Ok c =
    let d = (goal.at.returns-in-Ok c).After-index_mut in
    let unmarked : Want = record (want_of c.index_mut.result.now) { confirm = false } in
    same_rows _ (put_in c.args.self.now (c.args.session, c.args.unit) unmarked) (over d) ∙ unmarked_is c.args.self.now (c.args.session, c.args.unit) (want_of c.index_mut.result.now) (found d)

pub returns-in_default : goal.returns-in_default
returns-in_default c =
    unmarked_none c.args.self.now (c.args.session, c.args.unit)
    (get_absent want_keys want_row c.self.inside.rows.items c.self.inside.rising c.args.self.now c.self.view_is (c.args.session, c.args.unit) c.in_default.field-0
    (rw c.as_slice.ensures.value at c.in_default.ensures.absent))
