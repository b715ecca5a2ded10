use Rattle.std.proofs.Common.{arith}
use Rattle.soft_table.proofs.Pools.{no_slots, opened, shown_opened}
use Rattle.soft_table.proofs.pool.Pool.open.Goals as goal

pub invariant_of-result : goal.invariant_of-result
invariant_of-result g c = (
  rw (c.in_ok-entries.ensures.items, c.in_ok-lists.ensures) (opened _ c.args.slots 18446744073709551615 c.requires),
  rw c.in_ok-lists.ensures (omega (arith, c.in_ok-entries.ensures.exact)),
  λ _. rw c.in_ok-lists.ensures (no_slots 1),
)

pub returns : goal.returns
returns g c = rw (c.in_ok-entries.ensures.items, c.in_ok-lists.ensures) (shown_opened _ 0 c.args.slots)
