use Rattle.std.proofs.Common.{ap, ◌∙◌}
use Rattle.std.specs.List.{list_any}
use Rattle.rsvp_base.specs.Orders.{sessions, senders}
use Rattle.rsvp_base.specs.Table.{keys}
use Rattle.rsvp_base.specs.Under.{under}
use Rattle.path_state.specs.Paths.{PathMap, is_from}
use Rattle.path_state.proofs.table.PathTable.has_address.Goals as goal

pub returns : goal.returns
returns c = c.has_address.ensures ∙ ap (λ (m : PathMap). list_any (is_from c.args.addr) (keys (under sessions senders m.facts c.args.session))) c.self.view_is
