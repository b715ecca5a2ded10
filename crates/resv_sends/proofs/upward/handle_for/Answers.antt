use Rattle.std.proofs.Common.{sym, ap, ◌∙◌}
use Rattle.rsvp_base.specs.Table.{keys}
use Rattle.router_rules.specs.Sends.{handle_for}
use Rattle.laws_sends.specs.State.{facts_of}
use Rattle.laws_sends.specs.Seen.{lane_of}
use Rattle.router_state.specs.Whole.{state_of}
use Rattle.resv_sends.proofs.Named.{first_is, handle_is}
use Rattle.resv_sends.proofs.upward.handle_for.Goals as goal

pub returns-in-Some-clause-handle : goal.returns-in-Some-clause-handle
returns-in-Some-clause-handle c = λ clock said st hop.
    let n = state_of c.args.tables.now said in
    c.handle_of.ensures ∙ handle_is clock n c.args.session st hop c.in-Some.first _ c.find.ensures.fact
    ∙ ap (handle_for (facts_of clock n) (lane_of c.args.session st hop)) (sym c.in-Some.is ∙ first_is (keys c.args.via.now) _ c.at.ensures)

pub returns-in-None-clause-handle : goal.returns-in-None-clause-handle
returns-in-None-clause-handle c = λ clock said st hop.
    ap (handle_for (facts_of clock (state_of c.args.tables.now said)) (lane_of c.args.session st hop)) (sym c.in-None.is ∙ first_is (keys c.args.via.now) _ c.at.ensures)
