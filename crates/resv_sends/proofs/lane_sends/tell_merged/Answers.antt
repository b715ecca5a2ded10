use Rattle.std.proofs.Common.{fold, ap, ◌∙◌}
use Rattle.sent_state.specs.Lanes.{lane_at, said_at, told}
use Rattle.router_state.specs.Whole.{state_of}
use Rattle.resv_sends.proofs.Said.{said_tested, told_is}
use Rattle.resv_sends.proofs.lane_sends.tell_merged.Goals as goal

pub returns-clause-sent : goal.returns-clause-sent
returns-clause-sent g c = λ clock any.
    let was = said_at c.args.said.now (lane_at (c.args.lane.session, (c.args.lane.style, c.args.lane.hop))) in
    c.tell_changed.ensures clock any
    ∙ ap (fold g.O.Outbox.posted c.args.out.now)
    (told_is clock (state_of c.args.tables.now any) c.args.lane.session c.args.lane.style c.args.lane.hop c.args.occasion.asked c.args.occasion.due was c.toward-now.result (c.toward-now.ensures clock any) _
    (said_tested c.is_said-is_old.result was c.toward-now.result c.is_said-is_old.ensures))

pub returns-clause-said : goal.returns-clause-said
returns-clause-said g c = λ clock any. c.tell.ensures ∙ ap (told c.args.said.now (lane_at (c.args.lane.session, (c.args.lane.style, c.args.lane.hop)))) (c.toward-now.ensures clock any)
