use Rattle.std.specs.Prelude.{is_some, map as each, ◌≡◌, true, false}
use Rattle.std.proofs.Common.{length, sym, ap, refl, ◌∙◌, arith}
use Rattle.std.proofs.lemmas.List.{length-map}
use Rattle.rsvp_base.specs.Orders.{sessions}
use Rattle.rsvp_base.specs.Table.{has, put_in, same_rows}
use Rattle.rsvp_base.proofs.Rows.{are_rows, put_new, size-put_new, size_rows}
use Rattle.local_state.specs.Counting.{started}
use Rattle.local_state.specs.Rows.{count_row}
use Rattle.local_state.specs.declared.countdowns.Countdown.{Countdown}
use Rattle.local_state.proofs.countdowns.Countdowns.begin.Goals as goal
use Rattle.local_state.proofs.countdowns.Countdowns.begin.Goals.{In-Err}

absent : (c : In-Err) → has c.args.self.now c.args.session ≡ false
absent c = ap (λ m. has m c.args.session) (sym c.self.view_is) ∙ ap is_some (rw c.as_slice.ensures.value at c.in-Err.ensures.absent).absent

pub insert_row-requires-clause-within : goal.insert_row-requires-clause-within
insert_row-requires-clause-within c = (rw c.as_slice.ensures.value at c.in-Err.ensures.absent).within

pub insert_row-requires-clause-room : goal.insert_row-requires-clause-room
insert_row-requires-clause-room c =
    let lt = c.requires (absent ((goal.at.insert_row-requires-clause-room c).In-Err)) in
    omega (arith, size_rows sessions count_row c.self.inside.rows.items c.self.inside.rising c.args.self.now c.self.view_is, lt, c.self.inside.room)

pub invariant_of-self-inside : goal.invariant_of-self-inside
invariant_of-self-inside c =
    let row : Countdown = record { session = c.args.session; left = c.args.left } in
    let goes = rw c.as_slice.ensures.value at c.in-Err.ensures.absent in
    let lt = c.requires (absent ((goal.at.invariant_of-self-inside c).In-Err)) in
    let new = ap (each count_row) c.insert_row.ensures.rows
    ∙ put_new sessions count_row c.self.inside.rows.items c.self.inside.rising c.args.self.now c.self.view_is c.args.session c.args.left row c.in-Err.at refl goes in
    let more = size-put_new sessions count_row c.self.inside.rows.items c.self.inside.rising c.args.self.now c.self.view_is c.args.session c.args.left c.in-Err.at goes in (
      are_rows sessions count_row c.insert_row.new.rows.items (put_in c.args.self.now c.args.session c.args.left) new,
      (omega (arith, ap length new, length-map c.insert_row.new.rows.items count_row, more, lt), (omega (arith, c.self.inside.room, c.insert_row.ensures.capacity), tt)),
    )

pub returns-in-Err : goal.returns-in-Err
returns-in-Err c =
    let row : Countdown = record { session = c.args.session; left = c.args.left } in
    let goes = rw c.as_slice.ensures.value at c.in-Err.ensures.absent in
    same_rows _ (put_in c.args.self.now c.args.session c.args.left) (ap (each count_row) c.insert_row.ensures.rows
    ∙ put_new sessions count_row c.self.inside.rows.items c.self.inside.rising c.args.self.now c.self.view_is c.args.session c.args.left row c.in-Err.at refl goes)
    ∙ ap (λ b. started b c.args.session c.args.left c.args.self.now) (sym (absent ((goal.at.returns-in-Err c).In-Err)))

pub returns-in_default : goal.returns-in_default
returns-in_default c =
    let row : Countdown = record { session = c.args.session; left = c.args.left } in
    let stands = rw c.as_slice.ensures.value at c.in_default.ensures.there in
    let there : true ≡ has c.args.self.now c.args.session = sym (ap is_some (stands.found row)) ∙ ap (λ m. has m c.args.session) c.self.view_is in
    ap (λ b. started b c.args.session c.args.left c.args.self.now) there
