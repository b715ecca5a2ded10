use Rattle.std.proofs.Common.{◌-◌, ◌∙◌, refl, ap, sym, arith}
use Rattle.std.specs.Prelude.{slice_set}
use Rattle.soft_table.specs.declared.cell.Cell.TheVariants.{Free}
use Rattle.soft_table.proofs.Pools.{empty, none_placed, pool_placed, shows, live_at, live_read, live_within}
use Rattle.soft_table.proofs.pool.Pool.remove.Goals as goal

pub invariant_of-self : goal.invariant_of-self
invariant_of-self g c =
    let s = c.self.inside in
    let t = c.take.ensures in (
      rw t.lists (pool_placed s.clock s.lists.room s.entries.items s.lists.homes c.self.invariant.0 c.take.new.entries.items _ c.args.slot.0 0 empty
          (live_within s.clock s.lists.room s.entries.items c.args.slot.0 (rw c.self.view_is c.requires)) t.entries.3 refl refl),
      rw (t.lists, t.capacity) c.self.invariant.1,
      λ may. rw t.lists (none_placed s.lists.homes c.args.slot.0 0 1 (λ e. omega (arith, e)) (c.self.invariant.2 may)),
    )

pub returns-clause-was : goal.returns-clause-was
returns-clause-was g c =
    let s = c.self.inside in
    let e = c.take.ensures.entries in
    let has = sym e.2 ∙ c.in-Some.is in
    let live = live_at s.clock s.lists.room s.entries.items c.args.slot.0 e.0 (rw c.self.view_is c.requires) e.1 in
    (e.0.moment - s.clock, rw (← c.self.view_is) (live_read s.clock s.lists.room s.entries.items c.args.slot.0 e.0 c.in-Some.value e.1 has live))

pub returns-clause-gone : goal.returns-clause-gone
returns-clause-gone g c =
    let s = c.self.inside in
    let t = c.take.ensures in
    rw t.lists (shows s.clock s.lists.room s.entries.items c.take.new.entries.items c.args.slot.0 empty Free
    (live_within s.clock s.lists.room s.entries.items c.args.slot.0 (rw c.self.view_is c.requires)) t.entries.3 refl
    ∙ ap (λ xs. slice_set xs c.args.slot.0 Free) c.self.view_is)
