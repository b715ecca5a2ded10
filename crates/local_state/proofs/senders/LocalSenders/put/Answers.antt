use Rattle.std.specs.Prelude.{ℕ, false, is_some, List, map as each, ◌≡◌, true}
use Rattle.std.proofs.Common.{get_or, length, set, sym, ap, refl, subst, ◌∙◌, arith}
use Rattle.std.proofs.lemmas.Bool.{both_ways}
use Rattle.std.proofs.lemmas.List.{length-map}
use Rattle.rsvp_base.specs.Orders.{sessions, senders}
use Rattle.rsvp_base.specs.SessionLimits.{IsWithinSessionLimits, has_room_at, sessions_in}
use Rattle.rsvp_base.specs.Rows.{AreRows, HasRowAt, table_of}
use Rattle.rsvp_base.specs.Table.{Table, changed_rows, get, put_in, same_rows, size}
use Rattle.rsvp_base.specs.TokenBucket.{TokenBucket}
use Rattle.rsvp_base.specs.Under.{rows_under, under}
use Rattle.rsvp_base.proofs.Rows.{get_absent, get_found, put_new, put_over, rows_are, size-put_new, size_rows}
use Rattle.rsvp_base.proofs.SessionCounts.{all_at_most, room_over, within_put}
use Rattle.router_rules.specs.Facts.{SenderKey, sender_keys}
use Rattle.local_state.specs.Rows.{is_marked, mark_row, sender_row, tspec_row}
use Rattle.local_state.specs.declared.senders.LocalSender.{LocalSender}
use Rattle.local_state.proofs.Held.{held_rows, new_count, new_room, over_count, over_within}
use Rattle.local_state.proofs.Marks.{announced_is, each_kept, key_at, marked, marked_more, marks_are, marks_rise, tspecs_is}
use Rattle.local_state.proofs.senders.LocalSenders.put.Goals as goal
use Rattle.local_state.proofs.senders.LocalSenders.put.Goals.{After-self, In-Ok, After-has_room}

abbrev Senders : Type 0
Senders = Table sender_keys TokenBucket

within : (c : After-self) → IsWithinSessionLimits senders c.args.self.now.tspecs
within c = subst (λ (t : Senders). IsWithinSessionLimits senders t) (tspecs_is c.self.view_is) c.self.inside.within

counted : (c : After-self) → c.self.inside.held ≡ size (sessions_in senders c.args.self.now.tspecs)
counted c = c.self.inside.counted ∙ ap (λ (t : Senders). size (sessions_in senders t)) (tspecs_is c.self.view_is)

-- ---- a sender that is there
there : (c : In-Ok) → is_some (get c.args.self.now.tspecs (c.args.session, c.args.sender)) ≡ true
there c =
    let row : LocalSender = record { session = c.args.session; sender = c.args.sender; tspec = c.args.tspec; advertised = false } in
    ap is_some (get_found sender_keys sender_row c.self.inside.rows.items c.self.inside.rising c.args.self.now.tspecs (tspecs_is c.self.view_is) (c.args.session, c.args.sender) c.in-Ok.at row
    (rw c.as_slice.ensures.value at c.in-Ok.ensures.there))

-- with what is announced in place of what was
over : (xs : List LocalSender) (up : AreRows sender_keys sender_row xs) (m : Senders) (is : table_of sender_keys sender_row xs up ≡ m) (k : SenderKey) (tspec : TokenBucket) (i : ℕ) (row : LocalSender)
    → HasRowAt sender_keys sender_row xs k i → row ≡ get_or xs i row → each sender_row (set xs i (record row { tspec = tspec })) ≡ (put_in m k tspec).rows
over xs up m is k tspec i row h e =
    let here = key_at xs k i row h e in put_over sender_keys sender_row xs up m is k tspec (record row { tspec = tspec }) i (λ j. (here j, tspec)) h

pub invariant_of-self-inside : goal.invariant_of-self-inside
invariant_of-self-inside c =
    let d = (goal.at.invariant_of-self-inside c).In-Ok in
    let s = (goal.at.invariant_of-self-inside c).After-self in
    let k : SenderKey = (c.args.session, c.args.sender) in
    let new = over c.self.inside.rows.items c.self.inside.rising c.args.self.now.tspecs (tspecs_is c.self.view_is) k c.args.tspec c.in-Ok.at c.index_mut.result.now
    (rw c.as_slice.ensures.value at c.in-Ok.ensures.there) c.index_mut.ensures.value in
    let h = held_rows senders sender_row _ (put_in c.args.self.now.tspecs k c.args.tspec) c.self.inside.held new
    (over_within senders c.args.self.now.tspecs (within s) c.args.session c.args.sender c.args.tspec (there d))
    (counted s ∙ sym (over_count senders c.args.self.now.tspecs (within s) c.args.session c.args.sender c.args.tspec (there d))) in
    (h.0, (marks_rise (set c.self.inside.rows.items c.in-Ok.at (record c.index_mut.result.now { tspec = c.args.tspec })) h.0, (h.1, (h.2, (c.self.inside.room, tt)))))

pub returns-in-Ok-clause-ok : goal.returns-in-Ok-clause-ok
returns-in-Ok-clause-ok c =
    let k : SenderKey = (c.args.session, c.args.sender) in
    let xs = c.self.inside.rows.items in
    let row : LocalSender = record c.index_mut.result.now { tspec = c.args.tspec } in
    announced_is _ (record c.args.self.now { tspecs = put_in c.args.self.now.tspecs k c.args.tspec })
    (same_rows _ (put_in c.args.self.now.tspecs k c.args.tspec) (over xs c.self.inside.rising c.args.self.now.tspecs (tspecs_is c.self.view_is) k c.args.tspec c.in-Ok.at c.index_mut.result.now
    (rw c.as_slice.ensures.value at c.in-Ok.ensures.there) c.index_mut.ensures.value))
    (same_rows _ c.args.self.now.advertised
    (ap (changed_rows is_marked) (each_kept mark_row xs c.in-Ok.at row c.index_mut.result.now (ap mark_row c.index_mut.ensures.value)) ∙ marks_are c.self.view_is))

pub returns-in-Ok-clause-full : goal.returns-in-Ok-clause-full
returns-in-Ok-clause-full c = (
  λ e. cc,
  λ out. absurd (both_ways _ out (room_over senders c.args.self.now.tspecs (within ((goal.at.returns-in-Ok-clause-full c).After-self)) c.args.session c.args.sender c.args.tspec
      (there ((goal.at.returns-in-Ok-clause-full c).In-Ok)))),
)

-- ---- a new one
among : (c : After-has_room) → length c.of_session-among.result.now ≡ size (under sessions senders c.args.self.now.tspecs c.args.session)
among c =
    sym (length-map c.of_session-among.result.now tspec_row) ∙ ap length c.of_session-among.ensures
    ∙ ap (λ es. length (rows_under sessions senders c.args.session es)) (ap (each sender_row) c.as_slice-in-Err.ensures.value
    ∙ rows_are sender_keys sender_row c.self.inside.rows.items c.self.inside.rising c.args.self.now.tspecs (tspecs_is c.self.view_is))

inner : (c : After-has_room) → IsWithinSessionLimits senders c.args.self.now.tspecs
inner c = subst (λ (t : Senders). IsWithinSessionLimits senders t) (tspecs_is c.self.view_is) c.self.inside.within

number : (c : After-has_room) → c.self.inside.held ≡ size (sessions_in senders c.args.self.now.tspecs)
number c = c.self.inside.counted ∙ ap (λ (t : Senders). size (sessions_in senders t)) (tspecs_is c.self.view_is)

room : (c : After-has_room) → has_room_at senders (put_in c.args.self.now.tspecs (c.args.session, c.args.sender) c.args.tspec) c.args.session ≡ c.has_room.result
room c =
    let absent = ap is_some (get_absent sender_keys sender_row c.self.inside.rows.items c.self.inside.rising c.args.self.now.tspecs (tspecs_is c.self.view_is) (c.args.session, c.args.sender) c.in-Err.at
    (rw c.as_slice.ensures.value at c.in-Err.ensures.absent)) in
    new_room senders c.args.self.now.tspecs (inner c) c.args.session c.args.sender c.args.tspec c.self.inside.held (length c.of_session-among.result.now) absent (number c) (among c) ∙ sym c.has_room.ensures

pub returns-then-not-has_room-clause-full : goal.returns-then-not-has_room-clause-full
returns-then-not-has_room-clause-full c = (λ e. room ((goal.at.returns-then-not-has_room-clause-full c).After-has_room) ∙ c.if-not-has_room.true, λ e. refl)

fits : (c : After-has_room) → c.has_room.result ≡ true → IsWithinSessionLimits senders (put_in c.args.self.now.tspecs (c.args.session, c.args.sender) c.args.tspec)
fits c there = within_put senders c.args.self.now.tspecs (inner c) c.args.session c.args.sender c.args.tspec (room c ∙ there)

pub insert_row-requires-clause-room : goal.insert_row-requires-clause-room
insert_row-requires-clause-room c =
    let d = (goal.at.insert_row-requires-clause-room c).After-has_room in
    let k : SenderKey = (c.args.session, c.args.sender) in
    let w = fits d c.if-not-has_room.false in
    let few = all_at_most senders 32 (put_in c.args.self.now.tspecs k c.args.tspec) w.all w.one in
    let more = size-put_new sender_keys sender_row c.self.inside.rows.items c.self.inside.rising c.args.self.now.tspecs (tspecs_is c.self.view_is) k c.args.tspec c.in-Err.at
    (rw c.as_slice.ensures.value at c.in-Err.ensures.absent) in
    let n = size_rows sender_keys sender_row c.self.inside.rows.items c.self.inside.rising c.args.self.now.tspecs (tspecs_is c.self.view_is) in
    omega (arith, few, more, n, c.self.inside.room)

pub invariant_of-self-inside-in-Err : goal.invariant_of-self-inside-in-Err
invariant_of-self-inside-in-Err c =
    let d = (goal.at.invariant_of-self-inside-in-Err c).After-has_room in
    let k : SenderKey = (c.args.session, c.args.sender) in
    let row : LocalSender = record { session = c.args.session; sender = c.args.sender; tspec = c.args.tspec; advertised = false } in
    let new = ap (each sender_row) c.insert_row.ensures.rows
    ∙ put_new sender_keys sender_row c.self.inside.rows.items c.self.inside.rising c.args.self.now.tspecs (tspecs_is c.self.view_is) k c.args.tspec row c.in-Err.at refl
    (rw c.as_slice.ensures.value at c.in-Err.ensures.absent) in
    let h = held_rows senders sender_row c.insert_row.new.rows.items (put_in c.args.self.now.tspecs k c.args.tspec) c.with_session-self-inside.result new (fits d c.if-not-has_room.false)
    (c.with_session-self-inside.ensures ∙ new_count senders c.args.self.now.tspecs (inner d) c.args.session c.args.sender c.args.tspec c.self.inside.held (length c.of_session-among.result.now) (number d)
    (among d)) in
    (h.0, (marks_rise c.insert_row.new.rows.items h.0, (h.1, (h.2, (omega (arith, c.self.inside.room, c.insert_row.ensures.capacity), tt)))))

pub returns-else-not-has_room-clause-ok : goal.returns-else-not-has_room-clause-ok
returns-else-not-has_room-clause-ok c =
    let k : SenderKey = (c.args.session, c.args.sender) in
    let row : LocalSender = record { session = c.args.session; sender = c.args.sender; tspec = c.args.tspec; advertised = false } in
    announced_is _ (record c.args.self.now { tspecs = put_in c.args.self.now.tspecs k c.args.tspec })
    (same_rows _ (put_in c.args.self.now.tspecs k c.args.tspec)
    (ap (each sender_row) c.insert_row.ensures.rows ∙ put_new sender_keys sender_row c.self.inside.rows.items c.self.inside.rising c.args.self.now.tspecs (tspecs_is c.self.view_is)
    k c.args.tspec row c.in-Err.at refl (rw c.as_slice.ensures.value at c.in-Err.ensures.absent)))
    (same_rows _ c.args.self.now.advertised (ap marked c.insert_row.ensures.rows ∙ marked_more c.self.inside.rows.items c.in-Err.at row refl ∙ marks_are c.self.view_is))

pub returns-else-not-has_room-clause-full : goal.returns-else-not-has_room-clause-full
returns-else-not-has_room-clause-full c = (
  λ e. cc,
  λ out. absurd (both_ways _ out (room ((goal.at.returns-else-not-has_room-clause-full c).After-has_room) ∙ c.if-not-has_room.false)),
)
