use Rattle.std.proofs.Common.{◌-◌, ◌∙◌, refl, ap, sym, arith}
use Rattle.std.specs.Prelude.{slice_set}
use Rattle.soft_table.specs.declared.entry.Entry.{Entry}
use Rattle.soft_table.specs.declared.cell.Cell.TheVariants.{Live}
use Rattle.soft_table.specs.Wheel.{cell_of}
use Rattle.soft_table.proofs.Passing.{live_stays}
use Rattle.soft_table.proofs.Pools.{live_now, live_read, live_cell, live_within, pool_changed, shows}
use Rattle.soft_table.proofs.pool.Pool.set.Goals as goal

pub invariant_of-self : goal.invariant_of-self
invariant_of-self g c =
    let s = c.self.inside in
    let i = c.args.slot.0 in
    let e : Entry _ = c.index_mut.result.now in
    let f : Entry _ = record { value = c.replace.new.dest; moment = e.moment } in
    let live = live_now s.clock s.lists.room s.entries.items i e (rw c.self.view_is c.requires) c.index_mut.ensures.value in (
      pool_changed s.clock s.lists.room s.entries.items s.lists.homes c.self.invariant.0 _ i e f live.1 refl
          (λ h. live_stays s.clock s.soonest h e f live.0 c.args.value live.2 c.replace.ensures.after live.3 (omega arith)),
      c.self.invariant.1,
      c.self.invariant.2,
    )

pub returns : goal.returns
returns g c =
    let s = c.self.inside in
    let i = c.args.slot.0 in
    let e : Entry _ = c.index_mut.result.now in
    let f : Entry _ = record { value = c.replace.new.dest; moment = e.moment } in
    let left = e.moment - s.clock in
    let live = live_now s.clock s.lists.room s.entries.items i e (rw c.self.view_is c.requires) c.index_mut.ensures.value in
    let has = sym c.replace.ensures.value ∙ c.in-Some.is in (
      left,
      rw (← c.self.view_is) (live_read s.clock s.lists.room s.entries.items i e c.in-Some.old live.1 has live.3),
      shows s.clock s.lists.room s.entries.items _ i f (Live c.args.value left) (live_within s.clock s.lists.room s.entries.items i (rw c.self.view_is c.requires)) refl
          (ap (λ o. cell_of s.clock o e.moment) c.replace.ensures.after ∙ live_cell s.clock c.args.value e.moment live.3)
          ∙ ap (λ xs. slice_set xs i (Live c.args.value left)) c.self.view_is,
    )
