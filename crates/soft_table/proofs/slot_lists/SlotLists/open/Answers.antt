use Rattle.std.proofs.Common.{arith}
use Rattle.soft_table.proofs.Opens.{opened}
use Rattle.soft_table.proofs.slot_lists.SlotLists.open.Goals as goal

pub invariant_of-result : goal.invariant_of-result
invariant_of-result c =
    let heads = c.put_heads.ensures in
    let heads_2 = c.put_heads-2.ensures in (
      rw c.in_ok-home.ensures.items (opened c.put_heads.new.links.items c.put_heads-2.new.links.items c.args.room heads.heads heads_2.heads c.requires),
      omega (arith, heads.capacity, c.in_ok-next.ensures.exact),
      omega (arith, heads_2.capacity, c.in_ok-prev.ensures.exact),
      omega (arith, c.in_ok-home.ensures.exact),
    )
