use Rattle.std.proofs.Common.{fold, ap, ◌∙◌}
use Rattle.std.specs.List.{flat_map}
use Rattle.std.proofs.lemmas.List.{take_all}
use Rattle.router_state.specs.Whole.{state_of}
use Rattle.resv_sends.specs.Rounds.{lanes_of, torn_by}
use Rattle.resv_sends.proofs.Listed.{step_said}
use Rattle.resv_sends.proofs.rounds.tear_style.Goals as goal

pub loop-i-preserved : goal.loop-i-preserved
loop-i-preserved g c = λ clock any.
    c.tear_lane.ensures clock any
    ∙ step_said g.O.Outbox.posted c.args.out.now
    (torn_by clock (state_of c.args.tables.now any) c.args.said.now c.args.session) c.args.style c.as_slice-list.result.now c.loop-i.i _ c.loop-i-test.true c.loop-i.out
    (c.loop-i.invariant clock any)

pub returns : goal.returns
returns g c = λ clock any.
    c.loop-i.invariant clock any
    ∙ ap (λ hops. fold g.O.Outbox.posted c.args.out.now (flat_map (torn_by clock (state_of c.args.tables.now any) c.args.said.now c.args.session) (lanes_of c.args.style hops)))
    (take_all c.loop-i.i c.as_slice-list.result.now c.loop-i-test.false ∙ c.as_slice-list.ensures.hops)
