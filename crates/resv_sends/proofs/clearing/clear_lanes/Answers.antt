use Rattle.rsvp_base.specs.Table.{keys}
use Rattle.resv_sends.proofs.Cleared.{cleared_all}
use Rattle.resv_sends.proofs.clearing.clear_lanes.Goals as goal

pub returns : goal.returns
returns c = cleared_all c.args.tables.now c.args.session (keys c.args.hops.now) _ _ _ _ c.clear_style.ensures c.clear_style-2.ensures c.clear_style-3.ensures
