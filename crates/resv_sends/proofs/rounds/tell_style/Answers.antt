use Rattle.std.proofs.Common.{fold, refl, ap, subst, ◌∙◌}
use Rattle.std.specs.List.{flat_map}
use Rattle.std.proofs.lemmas.List.{take_all}
use Rattle.rsvp_base.specs.Table.{empty}
use Rattle.laws_sends.specs.Saying.{IsTold}
use Rattle.laws_sends.proofs.Saying.{told_none}
use Rattle.router_state.specs.Whole.{state_of}
use Rattle.resv_sends.specs.Rounds.{lanes_of, told_by}
use Rattle.resv_sends.proofs.Listed.{step_room, step_roomy, step_sent, step_told}
use Rattle.resv_sends.proofs.rounds.tell_style.Goals as goal

pub loop-i-init : goal.loop-i-init
loop-i-init g c = (λ clock any. refl, told_none (state_of c.args.tables.now c.args.said.now) c.args.session, c.requires.roomy)

pub tell_lane-requires : goal.tell_lane-requires
tell_lane-requires g c = record {
  room = step_room c.args.tables.now c.args.said.now c.args.session c.args.style c.args.hops.now c.requires.near c.as_slice-list.result.now
      c.as_slice-list.ensures.hops c.loop-i.i _ c.loop-i-test.true c.loop-i.said c.loop-i.invariant.2 c.limits.ensures.within;
}

pub loop-i-preserved : goal.loop-i-preserved
loop-i-preserved g c =
    let t = c.args.tables.now in
    let s = c.args.session in
    let st = c.args.style in
    let first = c.args.said.now in
    let list = c.as_slice-list.result.now in
    let old = c.loop-i.said in
    let told = step_told t first s st c.args.hops.now c.requires.near list c.as_slice-list.ensures.hops c.loop-i.i _ c.loop-i-test.true old c.loop-i.invariant.2 c.loop-i.invariant.1
    c.tell_lane.new.said (λ clock. c.tell_lane.ensures.said clock empty) in
    let roomy = step_roomy t first s st c.args.hops.now c.requires.near list c.as_slice-list.ensures.hops c.loop-i.i _ c.loop-i-test.true old c.loop-i.invariant.2 c.loop-i.invariant.1
    c.tell_lane.new.said (λ clock. c.tell_lane.ensures.said clock empty) in (
      λ clock any.
          step_sent g.O.Outbox.posted c.args.out.now clock t any c.args.occasion.asked c.args.occasion.due first s st c.args.hops.now c.requires.near list c.as_slice-list.ensures.hops c.loop-i.i _ c.loop-i-test.true
          old c.loop-i.invariant.2 c.loop-i.invariant.1 c.loop-i.out (c.loop-i.invariant.0 clock any) c.tell_lane.new.out (c.tell_lane.ensures.sent clock any),
      told,
      roomy,
    )

pub returns-clause-sent : goal.returns-clause-sent
returns-clause-sent g c = λ clock any.
    let say = told_by clock (state_of c.args.tables.now any) c.args.occasion.asked c.args.occasion.due c.args.said.now c.args.session in
    c.loop-i.invariant.0 clock any
    ∙ ap (λ hops. fold g.O.Outbox.posted c.args.out.now (flat_map say (lanes_of c.args.style hops))) (take_all c.loop-i.i c.as_slice-list.result.now c.loop-i-test.false ∙ c.as_slice-list.ensures.hops)

pub returns-clause-told : goal.returns-clause-told
returns-clause-told g c =
    subst (λ hops. IsTold (state_of c.args.tables.now c.args.said.now) c.args.session (lanes_of c.args.style hops) c.loop-i.said)
    (take_all c.loop-i.i c.as_slice-list.result.now c.loop-i-test.false ∙ c.as_slice-list.ensures.hops) c.loop-i.invariant.1

pub returns-clause-roomy : goal.returns-clause-roomy
returns-clause-roomy g c = c.loop-i.invariant.2
