use Rattle.std.proofs.Common.{ap, ◌∙◌}
use Rattle.rsvp_base.specs.Orders.{sessions, senders}
use Rattle.rsvp_base.specs.Under.{under}
use Rattle.path_state.specs.Paths.{PathMap, hops_by}
use Rattle.path_state.proofs.table.PathTable.hops.Goals as goal

pub hops-requires : goal.hops-requires
hops-requires c = c.self.inside.within.one c.args.session

pub returns : goal.returns
returns c = c.hops.ensures ∙ ap (λ (m : PathMap). hops_by (under sessions senders m.facts c.args.session).rows) c.self.view_is
