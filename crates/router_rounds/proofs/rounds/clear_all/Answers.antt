use Rattle.std.proofs.Common.{List, take, sym, ap, subst, ◌∙◌, arith, map as each}
use Rattle.std.proofs.lemmas.List.{take_all}
use Rattle.router_state.specs.Whole.{state_of}
use Rattle.router_rounds.specs.Rounds.{AreCleared, SessionHops}
use Rattle.router_rounds.proofs.Clearing.{cleared_more, cleared_nothing}
use Rattle.router_rounds.specs.Nears.{near_row}
use Rattle.router_rounds.proofs.Loops.{rows_more, still_due, still_later}
use Rattle.router_rounds.proofs.rounds.clear_all.Goals as goal

pub loop-i-init : goal.loop-i-init
loop-i-init c = cleared_nothing (state_of c.args.tables.now c.args.said.now) c.requires.full

pub clear_session-requires-clause-full : goal.clear_session-requires-clause-full
clear_session-requires-clause-full c = c.loop-i.invariant.some

pub clear_session-requires-clause-still : goal.clear_session-requires-clause-still
clear_session-requires-clause-still c = λ on.
    let r = c.index-list-i.result in
    let q = still_due c.args.due.now c.args.touched.now r.session c.is_one_of-is_due.result c.is_still-still.result c.is_one_of-is_due.ensures c.is_still-still.ensures on in
    still_later c.args.tables.now c.args.said.now r.session (c.requires.still r.session q.1 q.2) (each near_row (take c.loop-i.i c.as_slice-list.result.now)) c.loop-i.said c.loop-i.invariant

pub loop-i-preserved : goal.loop-i-preserved
loop-i-preserved c =
    subst (λ (es : List SessionHops). AreCleared (state_of c.args.tables.now c.args.said.now) es c.clear_session.new.said)
    (sym (rows_more c.as_slice-list.result.now c.loop-i.i c.index-list-i.result c.index-list-i.is c.loop-i-test.true))
    (cleared_more (state_of c.args.tables.now c.args.said.now)
    (each near_row (take c.loop-i.i c.as_slice-list.result.now)) c.loop-i.said c.loop-i.invariant c.index-list-i.result.session c.index-list-i.result.hops c.clear_session.new.said
    c.clear_session.ensures)

pub returns : goal.returns
returns c =
    subst (λ (es : List SessionHops). AreCleared (state_of c.args.tables.now c.args.said.now) es c.loop-i.said)
    (ap (each near_row) (take_all c.loop-i.i c.as_slice-list.result.now (omega (arith, c.loop-i-test.false))) ∙ c.as_slice-list.ensures.rows) c.loop-i.invariant
