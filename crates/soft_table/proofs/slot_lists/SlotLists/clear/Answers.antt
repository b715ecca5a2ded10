use Rattle.std.proofs.Common.{arith}
use Rattle.soft_table.proofs.Opens.{opened}
use Rattle.soft_table.proofs.slot_lists.SlotLists.clear.Goals as goal

pub invariant_of-self : goal.invariant_of-self
invariant_of-self c =
    let o = c.self.invariant in
    let heads = c.put_heads.ensures in
    let heads_2 = c.put_heads-2.ensures in (
      rw c.clear-3.ensures.items (opened c.put_heads.new.links.items c.put_heads-2.new.links.items c.self.inside.room heads.heads heads_2.heads o.0.most),
      omega (arith, heads.capacity, c.clear.ensures.capacity, o.1),
      omega (arith, heads_2.capacity, c.clear-2.ensures.capacity, o.2),
      omega (arith, c.clear-3.ensures.capacity, o.3),
    )
