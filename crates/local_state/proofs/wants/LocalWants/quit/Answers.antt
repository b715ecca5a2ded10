use Rattle.std.specs.Prelude.{map as each, nat_lt, ◌≡◌}
use Rattle.std.proofs.Common.{length, sym, ap, subst, ◌∙◌, arith}
use Rattle.std.proofs.lemmas.List.{length-map}
use Rattle.rsvp_base.specs.Orders.{sessions, units}
use Rattle.rsvp_base.specs.SessionLimits.{IsWithinSessionLimits, sessions_in}
use Rattle.rsvp_base.specs.Table.{same_rows, size}
use Rattle.std.specs.FinMap.Entries.{where_key}
use Rattle.rsvp_base.specs.Under.{rows_under, under}
use Rattle.rsvp_base.proofs.Rows.{rows_are}
use Rattle.router_rules.specs.Facts.{Wants, want_keys}
use Rattle.local_state.specs.Wants.{asked_row, want_row}
use Rattle.local_state.proofs.Held.{held_rows, left, left_count, left_within, others, rows_kept, some_left}
use Rattle.local_state.proofs.wants.LocalWants.quit.Goals as goal
use Rattle.local_state.proofs.wants.LocalWants.quit.Goals.{After-of_session-among, After-take_session}

among : (c : After-of_session-among) → length c.of_session-among.result.now ≡ size (under sessions units c.args.self.now c.args.session)
among c =
    sym (length-map c.of_session-among.result.now asked_row) ∙ ap length c.of_session-among.ensures
    ∙ ap (λ es. length (rows_under sessions units c.args.session es)) (ap (each want_row) c.as_slice.ensures.value
    ∙ rows_are want_keys want_row c.self.inside.rows.items c.self.inside.rising c.args.self.now c.self.view_is)

number : (c : After-of_session-among) → c.self.inside.held ≡ size (sessions_in units c.args.self.now)
number c = c.self.inside.counted ∙ ap (λ (t : Wants). size (sessions_in units t)) c.self.view_is

less : (c : After-take_session) → each want_row c.take_session.new.rows.items ≡ (left units c.args.self.now c.args.session).rows
less c =
    ap (each want_row) c.take_session.ensures.rows ∙ rows_kept want_keys want_row (others units c.args.self.now c.args.session) c.self.inside.rows.items
    ∙ ap (where_key want_keys.cmp (others units c.args.self.now c.args.session)) (rows_are want_keys want_row c.self.inside.rows.items c.self.inside.rising c.args.self.now c.self.view_is)

pub without_all-self-inside-requires : goal.without_all-self-inside-requires
without_all-self-inside-requires c =
    let d = (goal.at.without_all-self-inside-requires c).After-of_session-among in
    some_left units c.args.self.now c.args.session c.self.inside.held (length c.of_session-among.result.now) (number d) (among d)

pub invariant_of-self-inside : goal.invariant_of-self-inside
invariant_of-self-inside c =
    let d = (goal.at.invariant_of-self-inside c).After-of_session-among in
    let e = (goal.at.invariant_of-self-inside c).After-take_session in
    let m = c.args.self.now in
    let within = subst (λ (t : Wants). IsWithinSessionLimits units t) c.self.view_is c.self.inside.within in
    let h = held_rows units want_row c.take_session.new.rows.items (left units m c.args.session) c.without_all-self-inside.result (less e) (left_within units m c.args.session within)
    (c.without_all-self-inside.ensures ∙ left_count units m c.args.session c.self.inside.held (length c.of_session-among.result.now) (number d) (among d)) in
    (h.0, (h.1, (h.2, (omega (arith, c.self.inside.room, c.take_session.ensures.capacity), tt))))

pub returns-clause-had : goal.returns-clause-had
returns-clause-had c = ap (nat_lt 0) (among ((goal.at.returns-clause-had c).After-of_session-among))

pub returns-clause-gone : goal.returns-clause-gone
returns-clause-gone c = same_rows _ (left units c.args.self.now c.args.session) (less ((goal.at.returns-clause-gone c).After-take_session))
