use Rattle.std.proofs.Common.{◌∙◌, ap, arith, map as each}
use Rattle.soft_table.specs.declared.cell.Cell.TheVariants.{Free}
use Rattle.soft_table.proofs.Pools.{cleared, no_slots, shown_cleared}
use Rattle.soft_table.proofs.pool.Pool.clear.Goals as goal

pub invariant_of-self : goal.invariant_of-self
invariant_of-self g c =
    let s = c.self.inside in
    let o = c.self.invariant in (
      rw (c.clear.ensures.items, c.clear-2.ensures) (cleared s.entries.items s.lists.homes s.lists.room s.clock 18446744073709551615 (omega arith) o.0),
      rw (c.clear.ensures.capacity, c.clear-2.ensures) o.1,
      λ _. rw c.clear-2.ensures (no_slots 1),
    )

pub returns : goal.returns
returns g c =
    let s = c.self.inside in
    rw (c.clear.ensures.items, c.clear-2.ensures) (shown_cleared s.entries.items s.lists.homes s.lists.room s.clock c.self.invariant.0 ∙ ap (each (λ _. Free)) c.self.view_is)
