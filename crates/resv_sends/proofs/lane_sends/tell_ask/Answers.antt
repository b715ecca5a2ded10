use Rattle.std.proofs.Common.{fold, sym, ap, ◌∙◌}
use Rattle.laws_sends.specs.Saying.{ask_seen}
use Rattle.sent_state.specs.Lanes.{lane_at}
use Rattle.router_state.specs.Whole.{state_of}
use Rattle.resv_sends.proofs.Said.{asked_none, asked_some}
use Rattle.resv_sends.proofs.lane_sends.tell_ask.Goals as goal

pub returns-in_default : goal.returns-in_default
returns-in_default g c = λ clock said.
    ap (fold g.O.Outbox.posted c.args.out.now) (asked_none clock (state_of c.args.tables.now said) c.args.lane.session c.args.lane.style c.args.lane.hop c.args.wish c.args.due _
    (sym c.ask_of.ensures ∙ c.in_default.is))

pub returns : goal.returns
returns g c = λ clock said.
    let n = state_of c.args.tables.now said in
    c.post.ensures
    ∙ ap (fold g.O.Outbox.posted c.args.out.now)
    (asked_some clock n c.args.lane.session c.args.lane.style c.args.lane.hop c.args.wish c.args.due c.hop_to.result (c.hop_to.ensures clock said) c.period.result c.period.ensures c.in-Some.ask
    ∙ ap (ask_seen clock n (lane_at (c.args.lane.session, (c.args.lane.style, c.args.lane.hop))) c.args.wish c.args.due) (sym c.in-Some.is ∙ c.ask_of.ensures))
