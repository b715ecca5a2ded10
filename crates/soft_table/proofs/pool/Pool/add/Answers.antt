use Rattle.std.proofs.Common.{◌<◌, ◌+◌, ◌∙◌, Some, length, refl, ap, arith}
use Rattle.std.specs.Prelude.{slice_set}
use Rattle.soft_table.specs.declared.entry.Entry.{Entry}
use Rattle.soft_table.specs.declared.cell.Cell.TheVariants.{Live}
use Rattle.soft_table.specs.Wheel.{list_at}
use Rattle.soft_table.proofs.PoolSlots.{within}
use Rattle.soft_table.proofs.Passing.{filed_at}
use Rattle.soft_table.proofs.Pools.{none_free, none_made, none_placed, not_into_due, found_free, sizes, pool_placed, pool_grown, pool_sooner, room_left, shows, grows, next_free, live_shown}
use Rattle.soft_table.proofs.pool.Pool.add.Goals as goal

-- ---- into a slot that is free again
pub invariant_of-self : goal.invariant_of-self
invariant_of-self g c =
    let s = c.self.inside in
    let p = c.place.ensures in
    let made : c.in-Some.slot < length s.entries.items = omega (
      arith,
      within s.lists.homes c.in-Some.slot 0 c.in-Some.ensures.some,
      sizes s.clock s.lists.room s.entries.items s.lists.homes c.self.invariant.0,
    ) in
    let e : Entry _ = record { value = Some c.args.value; moment = s.clock + c.from.result } in
    let sooner = pool_sooner s.clock s.lists.room s.entries.items s.lists.homes c.self.invariant.0 c.min-soonest.result (omega (arith, c.self.invariant.0.ahead, c.min-soonest.ensures))
    (omega (arith, c.min-soonest.ensures)) in (
      rw p.lists (pool_placed s.clock s.lists.room s.entries.items s.lists.homes sooner c.place.new.entries.items _ c.in-Some.slot (list_at s.clock e) e made p.entries refl
          (filed_at s.clock c.min-soonest.result e (omega (arith, c.min-soonest.ensures)))),
      rw (p.lists, p.capacity) c.self.invariant.1,
      λ may. rw p.lists (none_placed s.lists.homes c.in-Some.slot (list_at s.clock e) 1 (not_into_due s.clock (s.clock + c.from.result) c.args.value (omega (arith, c.from.ensures, c.requires)))
          (c.self.invariant.2 may)),
    )

pub returns-in-Some-clause-free : goal.returns-in-Some-clause-free
returns-in-Some-clause-free g c =
    let s = c.self.inside in
    rw (← c.self.view_is) (found_free s.clock s.lists.room s.entries.items s.lists.homes c.self.invariant.0 c.in-Some.slot c.in-Some.ensures.some)

pub returns-in-Some-clause-placed : goal.returns-in-Some-clause-placed
returns-in-Some-clause-placed g c =
    let s = c.self.inside in
    let i = c.in-Some.slot in
    let v = c.args.value in
    let e : Entry _ = record { value = Some v; moment = s.clock + c.from.result } in
    let made : i < length s.entries.items = omega (arith, within s.lists.homes i 0 c.in-Some.ensures.some, sizes s.clock s.lists.room s.entries.items s.lists.homes c.self.invariant.0) in
    rw c.place.ensures.lists (shows s.clock s.lists.room s.entries.items c.place.new.entries.items i e (Live v c.args.left) made c.place.ensures.entries
    (live_shown s.clock c.from.result v (omega (arith, c.from.ensures, c.requires)) ∙ ap (Live v) c.from.ensures)
    ∙ ap (λ xs. slice_set xs i (Live v c.args.left)) c.self.view_is)

pub returns-then-is_full-clause-full : goal.returns-then-is_full-clause-full
returns-then-is_full-clause-full g c =
    let s = c.self.inside in
    rw (← c.self.view_is) (none_free s.clock s.lists.room s.entries.items s.lists.homes c.self.invariant.0 (c.is_full.ensures.0 c.if-is_full.true) (c.in_default.ensures.none refl))

-- ---- into the next slot
pub invariant_of-self-2 : goal.invariant_of-self-2
invariant_of-self-2 g c =
    let s = c.self.inside in
    let m = c.make-slot.ensures in
    let left = room_left s.clock s.lists.room s.entries.items s.lists.homes c.self.invariant.0 c.is_full.result c.if-is_full.false c.is_full.ensures.1 in
    let e : Entry _ = record { value = Some c.args.value; moment = s.clock + c.from.result } in
    let sooner = pool_sooner s.clock s.lists.room s.entries.items s.lists.homes c.self.invariant.0 c.min-soonest.result (omega (arith, c.self.invariant.0.ahead, c.min-soonest.ensures))
    (omega (arith, c.min-soonest.ensures)) in (
      rw m.lists (pool_grown s.clock s.lists.room s.entries.items s.lists.homes sooner c.make-slot.new.entries.items _ e left (omega (arith, c.min-soonest.ensures)) m.entries refl),
      rw (m.lists, m.capacity) c.self.invariant.1,
      λ may. rw m.lists (none_made s.lists.homes (list_at s.clock e) 1 (not_into_due s.clock (s.clock + c.from.result) c.args.value (omega (arith, c.from.ensures, c.requires)))
          (c.self.invariant.2 may)),
    )

pub returns-clause-free : goal.returns-clause-free
returns-clause-free g c =
    let s = c.self.inside in
    let left = room_left s.clock s.lists.room s.entries.items s.lists.homes c.self.invariant.0 c.is_full.result c.if-is_full.false c.is_full.ensures.1 in
    rw (c.make-slot.ensures.slot, ← c.self.view_is) (next_free s.clock s.lists.room s.entries.items left)

pub returns-clause-placed : goal.returns-clause-placed
returns-clause-placed g c =
    let s = c.self.inside in
    let m = c.make-slot.ensures in
    let v = c.args.value in
    let e : Entry _ = record { value = Some v; moment = s.clock + c.from.result } in
    let left = room_left s.clock s.lists.room s.entries.items s.lists.homes c.self.invariant.0 c.is_full.result c.if-is_full.false c.is_full.ensures.1 in
    rw (m.lists, m.slot) (grows s.clock s.lists.room s.entries.items left c.make-slot.new.entries.items e (Live v c.args.left) m.entries
    (live_shown s.clock c.from.result v (omega (arith, c.from.ensures, c.requires)) ∙ ap (Live v) c.from.ensures)
    ∙ ap (λ xs. slice_set xs (length s.entries.items) (Live v c.args.left)) c.self.view_is)
