use Rattle.std.proofs.Common.{fold, ap, ◌∙◌}
use Rattle.sent_state.specs.Lanes.{lane_at, said_at, told}
use Rattle.router_state.specs.Whole.{state_of}
use Rattle.resv_sends.proofs.Said.{nothing_told}
use Rattle.resv_sends.proofs.lane_sends.tell_lane.Goals as goal

pub returns-then-is_idle-clause-sent : goal.returns-then-is_idle-clause-sent
returns-then-is_idle-clause-sent g c = λ clock any.
    let l = c.args.lane in
    ap (fold g.O.Outbox.posted c.args.out.now) (nothing_told clock (state_of c.args.tables.now any) l.session l.style l.hop c.args.occasion.asked c.args.occasion.due
    (said_at c.args.said.now (lane_at (l.session, (l.style, l.hop)))) (c.is_idle.ensures c.if-is_idle.true clock any l.hop))

pub returns-then-is_idle-clause-said : goal.returns-then-is_idle-clause-said
returns-then-is_idle-clause-said g c = λ clock any.
    let l = c.args.lane in
    c.forget.ensures ∙ ap (told c.args.said.now (lane_at (l.session, (l.style, l.hop)))) (c.is_idle.ensures c.if-is_idle.true clock any l.hop)
