use Rattle.std.proofs.Common.{is_some, sym, ap, ◌∙◌}
use Rattle.path_state.specs.Paths.{via}
use Rattle.rsvp_base.specs.Sets.{is_none}
use Rattle.sent_state.specs.Lanes.{lane_at}
use Rattle.resv_sends.proofs.Cleared.{copied_there, keeps_none}
use Rattle.resv_sends.proofs.clearing.clear_lane.Goals as goal

pub returns-else-is_some : goal.returns-else-is_some
returns-else-is_some c = keeps_none (is_none (via c.args.tables.now.paths.facts c.args.session c.args.hop.0 c.args.hop.1)) c.args.said.now (lane_at (c.args.session, (c.args.style, c.args.hop)))
    (ap is_some (sym c.find.ensures) ∙ copied_there c.find.result ∙ sym c.is_some.ensures ∙ c.if-is_some.false)
