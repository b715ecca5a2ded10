use Rattle.std.proofs.Common.{sym, ap, ◌∙◌}
use Rattle.rsvp_base.specs.Table.{empty, get, keys}
use Rattle.router_rules.specs.Facts.{SenderKey}
use Rattle.laws_sends.specs.Before.{lanes_by}
use Rattle.laws_sends.proofs.Saying.{all_said, cleared_roomy}
use Rattle.router_state.specs.Whole.{state_of}
use Rattle.resv_sends.proofs.Sent.{hops_are, lanes_before}
use Rattle.resv_sends.proofs.telling.keep_said.Goals as goal

pub clear_lanes-requires : goal.clear_lanes-requires
clear_lanes-requires c = λ l t e. let b = c.requires.2 in b.said.some l t (sym (ap (λ z. get z l) b.same) ∙ e)

pub tell_lanes-requires-clause-near : goal.tell_lanes-requires-clause-near
tell_lanes-requires-clause-near c = λ clock. c.hops-hops.ensures ∙ hops_are clock (state_of c.args.tables.now empty) c.args.session

pub tell_lanes-requires-clause-roomy : goal.tell_lanes-requires-clause-roomy
tell_lanes-requires-clause-roomy c =
    let b = c.requires.2 in
    let k : SenderKey = (c.args.session, c.args.sender) in
    let m = state_of c.args.tables.now c.args.said.now in
    let roomy = cleared_roomy k c.requires.0 m b.change b.same b.said (lanes_by (keys c.args.near.now))
    (lanes_before c.requires.0 k c.args.near.now b.hops) c.clear_lanes.new.said c.clear_lanes.ensures in
    record { some = roomy.some; within = roomy.within }

pub returns : goal.returns
returns c =
    let b = c.requires.2 in
    let k : SenderKey = (c.args.session, c.args.sender) in
    let m = state_of c.args.tables.now c.args.said.now in
    let roomy = c.tell_lanes.ensures.roomy in
    let all =
    all_said k c.requires.0 m b.change b.same b.said (lanes_by (keys c.args.near.now)) (lanes_before c.requires.0 k c.args.near.now b.hops) c.clear_lanes.new.said c.clear_lanes.ensures
    (lanes_by (keys c.hops-hops.result)) (lanes_before m k c.hops-hops.result (λ clock. c.hops-hops.ensures ∙ hops_are clock m c.args.session)) c.tell_lanes.new.said c.tell_lanes.ensures.told
    (record { some = roomy.some; within = roomy.within }) in
    record { at = all.at; some = all.some }
