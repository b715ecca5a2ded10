use Rattle.std.proofs.Common.{◌≡◌, [], ◌++◌, length, take, get_or, sym, ap, ◌∙◌, arith, map as each}
use Rattle.std.specs.List.{cons_option, filter_map}
use Rattle.std.proofs.lemmas.List.{length-map, length-take, take_all}
use Rattle.rsvp_base.specs.Orders.{sessions}
use Rattle.rsvp_base.specs.Rows.{table_of}
use Rattle.rsvp_base.specs.Table.{changed, same_rows}
use Rattle.rsvp_base.proofs.Rows.{are_rows}
use Rattle.local_state.specs.Counting.{fired_row, is_fired}
use Rattle.local_state.specs.Rows.{count_row, session_row}
use Rattle.local_state.specs.declared.countdowns.Countdown.{Countdown}
use Rattle.local_state.proofs.Ticking.{fired_more, fired_few, rows_fired}
use Rattle.local_state.proofs.countdowns.fired_of.Goals as goal
use Rattle.local_state.proofs.countdowns.fired_of.Goals.{After-loop-i}

abbrev blank : Countdown
blank = record { session = record { group = record { 0 = 0 }; proto = 0; port = 0 }; left = 0 }

pub add_due-requires : goal.add_due-requires
add_due-requires c =
    let front = take c.loop-i.i c.args.rows.now in
    omega (arith, fired_few c.args.ms front, ap length c.loop-i.invariant, length-take c.loop-i.i c.args.rows.now, length-map c.loop-i.list.items session_row, c.loop-i-test.true, c.requires.few)

pub loop-i-preserved : goal.loop-i-preserved
loop-i-preserved c =
    c.add_due.ensures ∙ ap (λ es. es ++ cons_option (fired_row c.args.ms (get_or c.args.rows.now c.loop-i.i blank)) []) c.loop-i.invariant
    ∙ sym (fired_more c.args.ms c.args.rows.now c.loop-i.i blank c.loop-i-test.true)

whole : (c : After-loop-i) → each session_row c.loop-i.list.items ≡ (changed (is_fired c.args.ms) (table_of sessions count_row c.args.rows.now c.requires.rising)).rows
whole c = c.loop-i.invariant ∙ ap (filter_map (fired_row c.args.ms)) (take_all c.loop-i.i c.args.rows.now (omega (arith, c.loop-i-test.false))) ∙ rows_fired c.args.ms c.args.rows.now

pub of-requires-clause-rising : goal.of-requires-clause-rising
of-requires-clause-rising c =
    are_rows sessions session_row c.loop-i.list.items (changed (is_fired c.args.ms) (table_of sessions count_row c.args.rows.now c.requires.rising)) (whole c)

pub of-requires-clause-few : goal.of-requires-clause-few
of-requires-clause-few c =
    let front = take c.loop-i.i c.args.rows.now in
    omega (arith, fired_few c.args.ms front, ap length c.loop-i.invariant, length-take c.loop-i.i c.args.rows.now, length-map c.loop-i.list.items session_row, c.requires.few)

pub returns : goal.returns
returns c = λ up.
    let d = (goal.at.returns c).After-loop-i in
    c.of.ensures (are_rows sessions session_row c.loop-i.list.items (changed (is_fired c.args.ms) (table_of sessions count_row c.args.rows.now c.requires.rising)) (whole d))
    ∙ same_rows _ (changed (is_fired c.args.ms) (table_of sessions count_row c.args.rows.now up)) (whole d)
