use Rattle.std.proofs.Common.{fold, sym, ap, ◌∙◌}
use Rattle.std.specs.Option.{option_copied, unwrap_or}
use Rattle.rsvp_base.specs.Table.{empty}
use Rattle.sent_state.specs.Lanes.{lane_at}
use Rattle.laws_sends.specs.Saying.{torn_seen}
use Rattle.router_state.specs.Whole.{state_of}
use Rattle.resv_sends.proofs.Said.{nothing_torn}
use Rattle.resv_sends.proofs.rounds.tear_lane.Goals as goal

pub returns-in_default : goal.returns-in_default
returns-in_default g c = λ clock any.
    let l = lane_at (c.args.session, (c.args.style, c.args.hop)) in
    let none = ap (λ w. unwrap_or w empty) (sym c.find.ensures ∙ ap option_copied c.in_default.is) in
    ap (fold g.O.Outbox.posted c.args.out.now) (nothing_torn clock (state_of c.args.tables.now any) l ∙ ap (torn_seen clock (state_of c.args.tables.now any) l) (sym none))

pub returns : goal.returns
returns g c = λ clock any.
    let was = ap (λ w. unwrap_or w empty) (ap option_copied (sym c.in-Some.is) ∙ c.find.ensures) in
    c.tell_torn.ensures clock any ∙ ap (λ w. fold g.O.Outbox.posted c.args.out.now (torn_seen clock (state_of c.args.tables.now any) (lane_at (c.args.session, (c.args.style, c.args.hop))) w)) was
