use Rattle.std.proofs.Common.{sym, ap, ◌∙◌, arith, map as each}
use Rattle.rsvp_base.specs.Orders.{sessions}
use Rattle.rsvp_base.specs.Table.{get, same_rows, without}
use Rattle.rsvp_base.proofs.Rows.{are_rows}
use Rattle.rsvp_base.proofs.Tables.{without_absent}
use Rattle.local_state.specs.Rows.{count_row}
use Rattle.local_state.proofs.countdowns.Countdowns.stop.Goals as goal
use Rattle.local_state.proofs.Taken.{rows_taken}

pub invariant_of-self-inside : goal.invariant_of-self-inside
invariant_of-self-inside c =
    let is = ap (each count_row) c.remove.ensures.items ∙ rows_taken sessions count_row c.self.inside.rows.items c.self.inside.rising c.args.self.now c.self.view_is c.args.session c.in-Ok.at
    (rw c.as_slice.ensures.value at c.in-Ok.ensures.there) in (
      are_rows sessions count_row c.remove.new.self.items (without c.args.self.now c.args.session) is,
      (omega (arith, c.self.inside.few, c.remove.ensures.len), (omega (arith, c.self.inside.room, c.remove.ensures.capacity), tt)),
    )

pub returns-in-Ok : goal.returns-in-Ok
returns-in-Ok c =
    same_rows _ (without c.args.self.now c.args.session)
    (ap (each count_row) c.remove.ensures.items ∙ rows_taken sessions count_row c.self.inside.rows.items c.self.inside.rising c.args.self.now c.self.view_is c.args.session c.in-Ok.at
    (rw c.as_slice.ensures.value at c.in-Ok.ensures.there))

pub returns-in_default : goal.returns-in_default
returns-in_default c =
    let goes = rw c.as_slice.ensures.value at c.in_default.ensures.absent in
    sym (without_absent sessions c.args.self.now c.args.session (ap (λ m. get m c.args.session) (sym c.self.view_is) ∙ goes.absent))
