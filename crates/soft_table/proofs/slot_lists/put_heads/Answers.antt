use Rattle.std.proofs.Common.{◌∙◌}
use Rattle.soft_table.proofs.Opens.{one_more}
use Rattle.soft_table.proofs.slot_lists.put_heads.Goals as goal

pub loop-list-preserved : goal.loop-list-preserved
loop-list-preserved c =
    let o = c.loop-list.invariant in
    (rw (c.push_reserved.ensures.items, c.from.ensures) (one_more c.loop-list.list c.loop-list.links.items o.0), c.push_reserved.ensures.capacity ∙ o.1)
