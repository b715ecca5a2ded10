use Rattle.std.proofs.Common.{arith}
use Rattle.soft_table.proofs.Rings.{opened}
use Rattle.soft_table.proofs.ring.Ring.open.Goals as goal

pub invariant_of-result : goal.invariant_of-result
invariant_of-result c =
    let p = c.push_reserved.ensures in
    let q = c.push_reserved-2.ensures in (
      rw (p.items, c.in_ok-next.ensures.items, q.items, c.in_ok-prev.ensures.items) (opened c.args.room c.requires),
      omega (arith, p.capacity, c.in_ok-next.ensures.exact),
      omega (arith, q.capacity, c.in_ok-prev.ensures.exact),
    )
