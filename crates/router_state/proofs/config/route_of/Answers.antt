use Rattle.std.proofs.Common.{sym, ◌∙◌}
use Rattle.router_state.proofs.Routed.{route_at}
use Rattle.router_state.proofs.config.route_of.Goals as goal

pub returns-in-Ok : goal.returns-in-Ok
returns-in-Ok c = sym (c.in-Ok.ensures.there.found _) ∙ sym (route_at c.args.rows.now c.args.group c.args.source)

pub returns-in-Err : goal.returns-in-Err
returns-in-Err c = sym (c.in-Err.ensures.absent.absent) ∙ sym (route_at c.args.rows.now c.args.group c.args.source)
