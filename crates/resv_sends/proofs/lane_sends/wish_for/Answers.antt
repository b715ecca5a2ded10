use Rattle.std.proofs.Common.{sym, ap, ◌∙◌}
use Rattle.sent_state.specs.Lanes.{lane_at}
use Rattle.laws_sends.specs.Saying.{wish_seen}
use Rattle.router_state.specs.Whole.{state_of}
use Rattle.resv_sends.proofs.Said.{wish_given, wish_own}
use Rattle.resv_sends.proofs.lane_sends.wish_for.Goals as goal

pub returns-in-Some : goal.returns-in-Some
returns-in-Some c = λ clock said.
    wish_given clock (state_of c.args.tables.now said) c.args.lane.session c.args.lane.style c.args.lane.hop c.in-Some.addr
    ∙ ap (wish_seen clock (state_of c.args.tables.now said) (lane_at (c.args.lane.session, (c.args.lane.style, c.args.lane.hop)))) (sym c.in-Some.is)

pub returns-in-None : goal.returns-in-None
returns-in-None c = λ clock said.
    wish_own clock (state_of c.args.tables.now said) c.args.lane.session c.args.lane.style c.args.lane.hop c.own_wish.result (c.own_wish.ensures clock said)
    ∙ ap (wish_seen clock (state_of c.args.tables.now said) (lane_at (c.args.lane.session, (c.args.lane.style, c.args.lane.hop)))) (sym c.in-None.is)
