use Rattle.std.proofs.Common.{fold, ap, subst, ◌∙◌}
use Rattle.rsvp_base.specs.Table.{empty, keys}
use Rattle.path_state.specs.Paths.{HopSet}
use Rattle.router_rules.specs.Facts.{Wants}
use Rattle.laws_sends.specs.Before.{lanes_by}
use Rattle.laws_sends.specs.Saying.{IsTold}
use Rattle.router_state.specs.Whole.{state_of}
use Rattle.router_rounds.proofs.Loops.{hops_so, once_is, round_is}
use Rattle.router_rounds.proofs.rounds.tell_wishes.Goals as goal

pub tell_lanes-requires-clause-near : goal.tell_lanes-requires-clause-near
tell_lanes-requires-clause-near g c = λ clock. hops_so clock c.args.tables.now empty c.args.session c.hops-hops.result c.hops-hops.ensures

pub returns-clause-sent : goal.returns-clause-sent
returns-clause-sent g c = λ clock.
    c.tell_lanes.ensures.sent clock c.args.said.now
    ∙ ap (fold g.O.Outbox.posted c.args.out.now) (round_is clock c.args.tables.now c.args.said.now c.args.session c.hops-hops.result c.hops-hops.ensures c.args.due)

pub returns-clause-told : goal.returns-clause-told
returns-clause-told g c = λ clock.
    subst (λ (hs : HopSet). IsTold (state_of c.args.tables.now c.args.said.now) c.args.session (lanes_by (keys hs)) c.tell_lanes.new.said)
    (hops_so clock c.args.tables.now c.args.said.now c.args.session c.hops-hops.result c.hops-hops.ensures) c.tell_lanes.ensures.told

pub returns-clause-marks : goal.returns-clause-marks
returns-clause-marks g c = λ clock.
    c.unmark.ensures
    ∙ ap (λ (w : Wants). record c.args.tables.now { wants = w })
    (once_is clock c.args.tables.now c.args.said.now c.args.session c.hops-hops.result c.hops-hops.ensures c.used_marks-used.result (c.used_marks-used.ensures clock c.args.said.now))
