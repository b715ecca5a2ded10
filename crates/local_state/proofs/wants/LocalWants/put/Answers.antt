use Rattle.std.specs.Prelude.{is_some, map as each, ◌≡◌, true}
use Rattle.std.proofs.Common.{length, set, sym, ap, refl, subst, ◌∙◌, arith}
use Rattle.std.proofs.lemmas.Bool.{both_ways}
use Rattle.std.proofs.lemmas.List.{length-map}
use Rattle.rsvp_base.specs.Orders.{sessions, units}
use Rattle.rsvp_base.specs.SessionLimits.{IsWithinSessionLimits, has_room_at, sessions_in}
use Rattle.rsvp_base.specs.Table.{get, put_in, same_rows, size}
use Rattle.rsvp_base.specs.Under.{rows_under, under}
use Rattle.rsvp_base.proofs.Rows.{get_absent, get_found, put_new, put_over, rows_are, size-put_new, size_rows}
use Rattle.rsvp_base.proofs.SessionCounts.{all_at_most, room_over, within_put}
use Rattle.router_rules.specs.Facts.{WantKey, Wants, want_keys}
use Rattle.local_state.specs.Wants.{want_row, asked_row, want_of}
use Rattle.local_state.specs.declared.wants.LocalWant.{LocalWant}
use Rattle.local_state.proofs.Held.{held_rows, new_count, new_room, over_count, over_within}
use Rattle.local_state.proofs.wants.LocalWants.put.Goals as goal
use Rattle.local_state.proofs.wants.LocalWants.put.Goals.{After-self, In-Ok, After-has_room}

within : (c : After-self) → IsWithinSessionLimits units c.args.self.now
within c = subst (λ (t : Wants). IsWithinSessionLimits units t) c.self.view_is c.self.inside.within

counted : (c : After-self) → c.self.inside.held ≡ size (sessions_in units c.args.self.now)
counted c = c.self.inside.counted ∙ ap (λ (t : Wants). size (sessions_in units t)) c.self.view_is

-- ---- a sender that is there
there : (c : In-Ok) → is_some (get c.args.self.now (c.args.want.session, c.args.want.unit)) ≡ true
there c =
    let row : LocalWant = c.args.want in
    ap is_some (get_found want_keys want_row c.self.inside.rows.items c.self.inside.rising c.args.self.now c.self.view_is (c.args.want.session, c.args.want.unit) c.in-Ok.at row
    (rw c.as_slice.ensures.value at c.in-Ok.ensures.there))

over : (c : In-Ok) → each want_row (set c.self.inside.rows.items c.in-Ok.at c.args.want) ≡ (put_in c.args.self.now (c.args.want.session, c.args.want.unit) (want_of c.args.want)).rows
over c =
    let row : LocalWant = c.args.want in
    put_over want_keys want_row c.self.inside.rows.items c.self.inside.rising c.args.self.now c.self.view_is (c.args.want.session, c.args.want.unit) (want_of c.args.want) row c.in-Ok.at refl
    (rw c.as_slice.ensures.value at c.in-Ok.ensures.there)

pub invariant_of-self-inside : goal.invariant_of-self-inside
invariant_of-self-inside c =
    let d = (goal.at.invariant_of-self-inside c).In-Ok in
    let s = (goal.at.invariant_of-self-inside c).After-self in
    let h = held_rows units want_row _ (put_in c.args.self.now (c.args.want.session, c.args.want.unit) (want_of c.args.want)) c.self.inside.held (over d)
    (over_within units c.args.self.now (within s) c.args.want.session c.args.want.unit (want_of c.args.want) (there d))
    (counted s ∙ sym (over_count units c.args.self.now (within s) c.args.want.session c.args.want.unit (want_of c.args.want) (there d))) in
    (h.0, (h.1, (h.2, (c.self.inside.room, tt))))

pub returns-in-Ok-clause-ok : goal.returns-in-Ok-clause-ok
returns-in-Ok-clause-ok c = same_rows _ (put_in c.args.self.now (c.args.want.session, c.args.want.unit) (want_of c.args.want)) (over ((goal.at.returns-in-Ok-clause-ok c).In-Ok))

pub returns-in-Ok-clause-full : goal.returns-in-Ok-clause-full
returns-in-Ok-clause-full c = (
  λ e. cc,
  λ out. absurd (both_ways _ out (room_over units c.args.self.now (within ((goal.at.returns-in-Ok-clause-full c).After-self)) c.args.want.session c.args.want.unit (want_of c.args.want)
      (there ((goal.at.returns-in-Ok-clause-full c).In-Ok)))),
)

-- ---- a new one
among : (c : After-has_room) → length c.of_session-among.result.now ≡ size (under sessions units c.args.self.now c.args.want.session)
among c =
    sym (length-map c.of_session-among.result.now asked_row) ∙ ap length c.of_session-among.ensures
    ∙ ap (λ es. length (rows_under sessions units c.args.want.session es)) (ap (each want_row) c.as_slice-in-Err.ensures.value
    ∙ rows_are want_keys want_row c.self.inside.rows.items c.self.inside.rising c.args.self.now c.self.view_is)

inner : (c : After-has_room) → IsWithinSessionLimits units c.args.self.now
inner c = subst (λ (t : Wants). IsWithinSessionLimits units t) c.self.view_is c.self.inside.within

number : (c : After-has_room) → c.self.inside.held ≡ size (sessions_in units c.args.self.now)
number c = c.self.inside.counted ∙ ap (λ (t : Wants). size (sessions_in units t)) c.self.view_is

room : (c : After-has_room) → has_room_at units (put_in c.args.self.now (c.args.want.session, c.args.want.unit) (want_of c.args.want)) c.args.want.session ≡ c.has_room.result
room c =
    let absent = ap is_some (get_absent want_keys want_row c.self.inside.rows.items c.self.inside.rising c.args.self.now c.self.view_is (c.args.want.session, c.args.want.unit) c.in-Err.at
    (rw c.as_slice.ensures.value at c.in-Err.ensures.absent)) in
    new_room units c.args.self.now (inner c) c.args.want.session c.args.want.unit (want_of c.args.want) c.self.inside.held (length c.of_session-among.result.now) absent (number c) (among c)
    ∙ sym c.has_room.ensures

pub returns-then-not-has_room-clause-full : goal.returns-then-not-has_room-clause-full
returns-then-not-has_room-clause-full c = (λ e. room ((goal.at.returns-then-not-has_room-clause-full c).After-has_room) ∙ c.if-not-has_room.true, λ e. refl)

fits : (c : After-has_room) → c.has_room.result ≡ true → IsWithinSessionLimits units (put_in c.args.self.now (c.args.want.session, c.args.want.unit) (want_of c.args.want))
fits c there = within_put units c.args.self.now (inner c) c.args.want.session c.args.want.unit (want_of c.args.want) (room c ∙ there)

pub insert_row-requires-clause-room : goal.insert_row-requires-clause-room
insert_row-requires-clause-room c =
    let d = (goal.at.insert_row-requires-clause-room c).After-has_room in
    let k : WantKey = (c.args.want.session, c.args.want.unit) in
    let w = fits d c.if-not-has_room.false in
    let few = all_at_most units 32 (put_in c.args.self.now k (want_of c.args.want)) w.all w.one in
    let more = size-put_new want_keys want_row c.self.inside.rows.items c.self.inside.rising c.args.self.now c.self.view_is k (want_of c.args.want) c.in-Err.at
    (rw c.as_slice.ensures.value at c.in-Err.ensures.absent) in
    let n = size_rows want_keys want_row c.self.inside.rows.items c.self.inside.rising c.args.self.now c.self.view_is in
    omega (arith, few, more, n, c.self.inside.room)

pub invariant_of-self-inside-in-Err : goal.invariant_of-self-inside-in-Err
invariant_of-self-inside-in-Err c =
    let d = (goal.at.invariant_of-self-inside-in-Err c).After-has_room in
    let k : WantKey = (c.args.want.session, c.args.want.unit) in
    let row : LocalWant = c.args.want in
    let new = ap (each want_row) c.insert_row.ensures.rows ∙ put_new want_keys want_row c.self.inside.rows.items c.self.inside.rising c.args.self.now c.self.view_is k
    (want_of c.args.want) row c.in-Err.at refl (rw c.as_slice.ensures.value at c.in-Err.ensures.absent) in
    let h = held_rows units want_row c.insert_row.new.rows.items (put_in c.args.self.now k (want_of c.args.want)) c.with_session-self-inside.result new (fits d c.if-not-has_room.false)
    (c.with_session-self-inside.ensures ∙ new_count units c.args.self.now (inner d) c.args.want.session c.args.want.unit (want_of c.args.want) c.self.inside.held
    (length c.of_session-among.result.now) (number d) (among d)) in
    (h.0, (h.1, (h.2, (omega (arith, c.self.inside.room, c.insert_row.ensures.capacity), tt))))

pub returns-else-not-has_room-clause-ok : goal.returns-else-not-has_room-clause-ok
returns-else-not-has_room-clause-ok c =
    let row : LocalWant = c.args.want in
    same_rows _ (put_in c.args.self.now (c.args.want.session, c.args.want.unit) (want_of c.args.want))
    (ap (each want_row) c.insert_row.ensures.rows ∙ put_new want_keys want_row c.self.inside.rows.items c.self.inside.rising c.args.self.now c.self.view_is (c.args.want.session, c.args.want.unit)
    (want_of c.args.want) row c.in-Err.at refl (rw c.as_slice.ensures.value at c.in-Err.ensures.absent))

pub returns-else-not-has_room-clause-full : goal.returns-else-not-has_room-clause-full
returns-else-not-has_room-clause-full c = (
  λ e. cc,
  λ out. absurd (both_ways _ out (room ((goal.at.returns-else-not-has_room-clause-full c).After-has_room) ∙ c.if-not-has_room.false)),
)
