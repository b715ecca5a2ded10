use Rattle.std.proofs.Common.{◌≡◌, length, sym, ap, subst, ◌∙◌, arith, map as each}
use Rattle.std.proofs.lemmas.List.{length-map}
use Rattle.rsvp_base.specs.Orders.{sessions}
use Rattle.rsvp_base.specs.Rows.{AreRows}
use Rattle.rsvp_base.specs.Table.{changed, changed_rows, same_rows}
use Rattle.rsvp_base.proofs.Rows.{are_rows, rows_are, table_is}
use Rattle.local_state.specs.Counting.{later_due, is_fired, ticked_row}
use Rattle.local_state.specs.Rows.{count_row}
use Rattle.local_state.proofs.Ticking.{rows_ticked}
use Rattle.local_state.proofs.countdowns.Countdowns.tick.Goals as goal
use Rattle.local_state.proofs.countdowns.Countdowns.tick.Goals.{After-tick_all}

rows_after : (c : After-tick_all) → each count_row c.tick_all.new.rows.items ≡ (changed (later_due c.args.quarter c.args.ms c.args.word) c.args.self.now).rows
rows_after c =
    ap (each count_row) c.tick_all.ensures.rows ∙ rows_ticked c.args.quarter c.args.ms c.args.word c.self.inside.rows.items
    ∙ ap (changed_rows (later_due c.args.quarter c.args.ms c.args.word)) (rows_are sessions count_row c.self.inside.rows.items c.self.inside.rising c.args.self.now c.self.view_is)

pub invariant_of-self-inside : goal.invariant_of-self-inside
invariant_of-self-inside c =
    let d = (goal.at.invariant_of-self-inside c).After-tick_all in
    let few = ap length c.tick_all.ensures.rows ∙ length-map c.self.inside.rows.items (ticked_row c.args.quarter c.args.ms c.args.word) in (
      are_rows sessions count_row c.tick_all.new.rows.items (changed (later_due c.args.quarter c.args.ms c.args.word) c.args.self.now) (rows_after d),
      (omega (arith, few, c.self.inside.few), (omega (arith, c.self.inside.room, c.tick_all.ensures.capacity), tt)),
    )

pub returns-clause-left : goal.returns-clause-left
returns-clause-left c =
    let d = (goal.at.returns-clause-left c).After-tick_all in
    same_rows _ (changed (later_due c.args.quarter c.args.ms c.args.word) c.args.self.now) (rows_after d)

pub returns-clause-fired : goal.returns-clause-fired
returns-clause-fired c =
    let up = subst (λ xs. AreRows sessions count_row xs) (sym c.as_slice.ensures.value) c.self.inside.rising in
    c.fired_of-fired.ensures up
    ∙ ap (changed (is_fired c.args.ms)) (table_is sessions count_row c.as_slice.result.now up c.args.self.now
    (ap (each count_row) c.as_slice.ensures.value ∙ rows_are sessions count_row c.self.inside.rows.items c.self.inside.rising c.args.self.now c.self.view_is))
