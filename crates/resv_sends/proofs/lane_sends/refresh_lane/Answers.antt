use Rattle.std.proofs.Common.{None, true, fold, sym, ap, ◌∙◌}
use Rattle.std.specs.Option.{option_copied, unwrap_or}
use Rattle.rsvp_base.specs.Table.{empty}
use Rattle.router_rules.specs.Asking.{ask_of}
use Rattle.sent_state.specs.Lanes.{lane_at}
use Rattle.router_state.specs.Whole.{state_of}
use Rattle.resv_sends.specs.Rounds.{renewed_seen}
use Rattle.resv_sends.proofs.Said.{asked_none, nothing_asked}
use Rattle.resv_sends.proofs.lane_sends.refresh_lane.Goals as goal

pub returns-in_default : goal.returns-in_default
returns-in_default g c = λ clock any.
    let none = ap (λ w. unwrap_or w empty) (sym c.find.ensures ∙ ap option_copied c.in_default.is) in
    ap (fold g.O.Outbox.posted c.args.out.now) (asked_none clock (state_of c.args.tables.now any) c.args.lane.session c.args.lane.style c.args.lane.hop None true _
    (ap (ask_of c.args.lane.style) none ∙ nothing_asked c.args.lane.style))

pub returns : goal.returns
returns g c = λ clock any.
    let was = ap (λ w. unwrap_or w empty) (ap option_copied (sym c.in-Some.is) ∙ c.find.ensures) in
    c.tell_ask.ensures clock any ∙ ap (λ w. fold g.O.Outbox.posted c.args.out.now (renewed_seen clock (state_of c.args.tables.now any) (lane_at (c.args.lane.session, (c.args.lane.style, c.args.lane.hop))) w)) was
