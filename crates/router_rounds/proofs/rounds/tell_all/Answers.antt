use Rattle.std.proofs.Common.{List, fold, refl, sym, ap, subst, ◌∙◌, arith, map as each}
use Rattle.std.specs.List.{flat_map}
use Rattle.std.proofs.lemmas.List.{take_all}
use Rattle.rsvp_base.specs.declared.session.Session.{Session}
use Rattle.rsvp_base.proofs.Filters.{flat_each}
use Rattle.laws_sends.specs.Several.{is_among}
use Rattle.router_state.specs.Whole.{state_of}
use Rattle.router_rounds.specs.Rounds.{AreTold, told_round, wants_told}
use Rattle.router_rounds.proofs.Telling.{told_nothing}
use Rattle.router_rounds.specs.declared.nears.Near.{Near}
use Rattle.router_rounds.proofs.Loops.{all_sessions, before_roomy, no_wants, session_of, step_marks, step_near, step_roomy, step_sent, step_still, step_told, still_due}
use Rattle.router_rounds.proofs.rounds.tell_all.Goals as goal

pub loop-i-init : goal.loop-i-init
loop-i-init g c =
    record {
      sent = λ clock. refl;
      told = told_nothing (state_of c.args.tables.now c.args.said.now) c.args.said.now;
      roomy = c.requires.roomy;
      marks = λ clock. no_wants c.args.tables.now c.args.said.now clock;
    }

pub tell_session-requires-clause-roomy : goal.tell_session-requires-clause-roomy
tell_session-requires-clause-roomy g c =
    before_roomy c.args.tables.now c.args.said.now c.as_slice-list.result.now c.loop-i.i c.index-list-i.result c.index-list-i.is c.loop-i-test.true c.args.nears.now c.as_slice-list.ensures.rows
    c.loop-i.tables c.loop-i.said c.loop-i.invariant.marks c.loop-i.invariant.told c.loop-i.invariant.roomy

pub tell_session-requires-clause-due : goal.tell_session-requires-clause-due
tell_session-requires-clause-due g c = λ on.
    let r = c.index-list-i.result in
    (still_due c.args.due.now c.args.touched.now r.session c.is_one_of-is_due.result c.is_still-still.result c.is_one_of-is_due.ensures c.is_still-still.ensures on).0

pub tell_session-requires-clause-still : goal.tell_session-requires-clause-still
tell_session-requires-clause-still g c = λ on.
    let list = c.as_slice-list.result.now in
    let r = c.index-list-i.result in
    let q = still_due c.args.due.now c.args.touched.now r.session c.is_one_of-is_due.result c.is_still-still.result c.is_one_of-is_due.ensures c.is_still-still.ensures on in
    step_still c.args.tables.now c.args.said.now list c.loop-i.i r c.index-list-i.is c.loop-i-test.true c.args.nears.now c.as_slice-list.ensures.rows c.loop-i.tables c.loop-i.said
    c.loop-i.invariant.marks c.loop-i.invariant.told
    (c.requires.still r.session q.1 q.2)

pub tell_session-requires-clause-near : goal.tell_session-requires-clause-near
tell_session-requires-clause-near g c = λ on.
    let list = c.as_slice-list.result.now in
    let r = c.index-list-i.result in
    let q = still_due c.args.due.now c.args.touched.now r.session c.is_one_of-is_due.result c.is_still-still.result c.is_one_of-is_due.ensures c.is_still-still.ensures on in
    step_near c.args.tables.now c.args.said.now list c.loop-i.i r c.index-list-i.is c.loop-i-test.true c.args.nears.now c.as_slice-list.ensures.rows c.loop-i.tables c.loop-i.said
    c.loop-i.invariant.marks c.loop-i.invariant.told
    (λ i. c.requires.near r.session r.hops i q.1 q.2)

pub loop-i-preserved : goal.loop-i-preserved
loop-i-preserved g c =
    let t = c.args.tables.now in
    let first = c.args.said.now in
    let list = c.as_slice-list.result.now in
    let so_far = c.loop-i.invariant in
    record {
      sent = λ clock.
          step_sent t first list c.loop-i.i c.index-list-i.result c.index-list-i.is c.loop-i-test.true c.args.nears.now c.as_slice-list.ensures.rows c.loop-i.tables c.loop-i.said so_far.marks
          so_far.told g.O.Outbox.posted c.args.out.now c.loop-i.out c.tell_session.new.out clock (is_among c.args.due.now)
          (so_far.sent clock)
          (c.tell_session.ensures.sent clock ∙ ap (λ b. fold g.O.Outbox.posted c.loop-i.out
          (told_round clock (state_of c.loop-i.tables c.loop-i.said) b c.loop-i.said c.index-list-i.result.session)) c.is_one_of-is_due.ensures);
      told = step_told t first list c.loop-i.i c.index-list-i.result c.index-list-i.is c.loop-i-test.true c.args.nears.now c.as_slice-list.ensures.rows c.loop-i.tables c.loop-i.said so_far.marks
          so_far.told c.tell_session.new.said c.tell_session.ensures.told;
      roomy = step_roomy t first list c.loop-i.i c.index-list-i.result c.index-list-i.is c.loop-i-test.true c.args.nears.now c.as_slice-list.ensures.rows c.loop-i.tables c.loop-i.said so_far.marks
          so_far.told c.tell_session.new.said c.tell_session.ensures.roomy;
      marks = step_marks t first list c.loop-i.i c.index-list-i.result c.index-list-i.is c.loop-i-test.true c.args.nears.now c.as_slice-list.ensures.rows c.loop-i.tables c.loop-i.said so_far.marks
          so_far.told c.tell_session.new.tables c.tell_session.ensures.marks;
    }

pub returns-clause-sent : goal.returns-clause-sent
returns-clause-sent g c = λ clock.
    let m = state_of c.args.tables.now c.args.said.now in
    let say : Session → _ = λ s. told_round clock m (is_among c.args.due.now s) c.args.said.now s in
    c.loop-i.invariant.sent clock
    ∙ ap (λ es. fold g.O.Outbox.posted c.args.out.now (flat_map (λ (e : Near). say e.session) es)) (take_all c.loop-i.i c.as_slice-list.result.now (omega (arith, c.loop-i-test.false)))
    ∙ ap (fold g.O.Outbox.posted c.args.out.now) (sym (flat_each session_of say c.as_slice-list.result.now)
    ∙ ap (flat_map say) (all_sessions c.args.nears.now c.as_slice-list.result.now c.as_slice-list.ensures.rows))

pub returns-clause-told : goal.returns-clause-told
returns-clause-told g c =
    subst (λ (ss : List Session). AreTold (state_of c.args.tables.now c.args.said.now) ss c.loop-i.said)
    (ap (each session_of) (take_all c.loop-i.i c.as_slice-list.result.now (omega (arith, c.loop-i-test.false)))
    ∙ all_sessions c.args.nears.now c.as_slice-list.result.now c.as_slice-list.ensures.rows) c.loop-i.invariant.told

pub returns-clause-roomy : goal.returns-clause-roomy
returns-clause-roomy g c = c.loop-i.invariant.roomy

pub returns-clause-marks : goal.returns-clause-marks
returns-clause-marks g c = λ clock.
    c.loop-i.invariant.marks clock
    ∙ ap (λ (ss : List Session). record c.args.tables.now { wants = wants_told clock (state_of c.args.tables.now c.args.said.now) c.args.said.now ss })
    (ap (each session_of) (take_all c.loop-i.i c.as_slice-list.result.now (omega (arith, c.loop-i-test.false))) ∙ all_sessions c.args.nears.now c.as_slice-list.result.now c.as_slice-list.ensures.rows)
