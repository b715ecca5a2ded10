use Rattle.network_demand.proofs.Carrying.{carried_then, carried_else}
use Rattle.network_demand.proofs.end_book.EndBook.is_carried.Goals as goal

pub returns-then-is_within : goal.returns-then-is_within
returns-then-is_within c =
    carried_then c.self.inside.rows.items c.self.inside.in_order c.args.self.now c.self.view_is c.args.iface.now c.are_short.result c.as_slice.result.now c.as_slice-then-is_within.result.now
    c.as_slice.ensures.value c.as_slice-then-is_within.ensures.value
    (c.is_within.ensures.0 c.if-is_within.true) c.are_short.ensures

pub returns-else-is_within : goal.returns-else-is_within
returns-else-is_within c =
    carried_else c.self.inside.rows.items c.self.inside.in_order c.args.self.now c.self.view_is c.args.iface.now c.is_within.result c.as_slice.result.now c.as_slice.ensures.value c.if-is_within.false
    c.is_within.ensures
