use Rattle.std.proofs.Common.{fold, sym, ap, ◌∙◌, arith}
use Rattle.std.specs.List.{flat_map}
use Rattle.std.proofs.lemmas.List.{take_all}
use Rattle.rsvp_base.proofs.Filters.{flat_each}
use Rattle.router_state.specs.Whole.{state_of}
use Rattle.router_rounds.specs.Rounds.{torn_near}
use Rattle.router_rounds.specs.Nears.{near_row}
use Rattle.router_rounds.specs.declared.nears.Near.{Near}
use Rattle.router_rounds.proofs.Loops.{row_told, still_due}
use Rattle.router_rounds.proofs.rounds.tear_all.Goals as goal

pub tear_session-requires : goal.tear_session-requires
tear_session-requires g c = λ on.
    let r = c.index-list-i.result in
    let q = still_due c.args.due.now c.args.touched.now r.session c.is_one_of-is_due.result c.is_still-still.result c.is_one_of-is_due.ensures c.is_still-still.ensures on in
    c.requires r.session q.1 q.2

pub loop-i-preserved : goal.loop-i-preserved
loop-i-preserved g c = λ clock.
    let t = c.args.tables.now in
    let said = c.args.said.now in
    let r = c.index-list-i.result in
    c.tear_session.ensures clock
    ∙ row_told c.as_slice-list.result.now c.loop-i.i r c.index-list-i.is c.loop-i-test.true g.O.Outbox.posted
    (λ (e : Near). torn_near clock (state_of t said) said (near_row e)) c.args.out.now c.loop-i.out (c.loop-i.invariant clock)

pub returns : goal.returns
returns g c = λ clock.
    let t = c.args.tables.now in
    let said = c.args.said.now in
    c.loop-i.invariant clock
    ∙ ap (λ es. fold g.O.Outbox.posted c.args.out.now (flat_map (λ (e : Near). torn_near clock (state_of t said) said (near_row e)) es))
    (take_all c.loop-i.i c.as_slice-list.result.now (omega (arith, c.loop-i-test.false)))
    ∙ ap (fold g.O.Outbox.posted c.args.out.now) (sym (flat_each near_row (torn_near clock (state_of t said) said) c.as_slice-list.result.now)
    ∙ ap (flat_map (torn_near clock (state_of t said) said)) c.as_slice-list.ensures.rows)
