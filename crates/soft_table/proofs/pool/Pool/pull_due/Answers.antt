use Rattle.std.proofs.Common.{◌≡◌, ◌<◌, ◌∙◌, length, Some, None, refl, ap, sym, arith}
use Rattle.std.specs.Prelude.{slice_set}
use Rattle.soft_table.specs.declared.cell.Cell.TheVariants.{Free, Due}
use Rattle.soft_table.proofs.PoolSlots.{within}
use Rattle.soft_table.proofs.Pools.{empty, none_due, none_placed, found_due, sizes, pool_placed, shows}
use Rattle.soft_table.proofs.pool.Pool.pull_due.Goals as goal

-- ---- where none may wait
pub returns-then-not-self-clause-none : goal.returns-then-not-self-clause-none
returns-then-not-self-clause-none g c = λ _.
    let s = c.self.inside in
    rw (← c.self.view_is) (none_due s.clock s.lists.room s.entries.items s.lists.homes c.self.invariant.0 (c.self.invariant.2 c.if-not-self.true))

-- ---- where none waits
pub invariant_of-self : goal.invariant_of-self
invariant_of-self g c = (c.self.invariant.0, c.self.invariant.1, λ _. c.in_default.ensures.none refl)

pub returns-in_default-clause-none : goal.returns-in_default-clause-none
returns-in_default-clause-none g c = λ _.
    let s = c.self.inside in
    rw (← c.self.view_is) (none_due s.clock s.lists.room s.entries.items s.lists.homes c.self.invariant.0 (c.in_default.ensures.none refl))

pub take-requires-clause-here : goal.take-requires-clause-here
take-requires-clause-here g c =
    let s = c.self.inside in
    omega (arith, within s.lists.homes c.in-Some.slot 1 c.in-Some.ensures.some, sizes s.clock s.lists.room s.entries.items s.lists.homes c.self.invariant.0)

pub unreachable-requires : goal.unreachable-requires
unreachable-requires g c =
    let s = c.self.inside in
    let d = found_due s.clock s.lists.room s.entries.items s.lists.homes c.self.invariant.0 c.in-Some.slot c.in-Some.ensures.some in
    let t = c.take.ensures.entries in
    let same : Some t.0 ≡ Some d.0 = sym t.1 ∙ d.2 in
    let eq : t.0 ≡ d.0 = cc in
    let both : None ≡ Some d.1 = sym c.in-None.is ∙ t.2 ∙ ap (λ e. e.value) eq ∙ d.3 in
    cc

pub invariant_of-self-2 : goal.invariant_of-self-2
invariant_of-self-2 g c =
    let s = c.self.inside in
    let t = c.take.ensures in
    let made : c.in-Some.slot < length s.entries.items =
    omega (arith, within s.lists.homes c.in-Some.slot 1 c.in-Some.ensures.some, sizes s.clock s.lists.room s.entries.items s.lists.homes c.self.invariant.0) in (
      rw t.lists (pool_placed s.clock s.lists.room s.entries.items s.lists.homes c.self.invariant.0 c.take.new.entries.items _ c.in-Some.slot 0 empty made t.entries.3 refl refl),
      rw (t.lists, t.capacity) c.self.invariant.1,
      λ may. rw t.lists (none_placed s.lists.homes c.in-Some.slot 0 1 (λ e. omega (arith, e)) (c.self.invariant.2 may)),
    )

pub returns-clause-due : goal.returns-clause-due
returns-clause-due g c =
    let s = c.self.inside in
    let d = found_due s.clock s.lists.room s.entries.items s.lists.homes c.self.invariant.0 c.in-Some.slot c.in-Some.ensures.some in
    let t = c.take.ensures.entries in
    let same : Some t.0 ≡ Some d.0 = sym t.1 ∙ d.2 in
    let eq : d.0 ≡ t.0 = cc in
    let both : Some d.1 ≡ Some c.in-Some-take.value = sym d.3 ∙ ap (λ e. e.value) eq ∙ sym t.2 ∙ c.in-Some-take.is in
    let value : d.1 ≡ c.in-Some-take.value = cc in
    rw (← c.self.view_is) (d.4 ∙ ap (λ v. Some (Due v)) value)

pub returns-clause-freed : goal.returns-clause-freed
returns-clause-freed g c =
    let s = c.self.inside in
    let t = c.take.ensures in
    let made : c.in-Some.slot < length s.entries.items =
    omega (arith, within s.lists.homes c.in-Some.slot 1 c.in-Some.ensures.some, sizes s.clock s.lists.room s.entries.items s.lists.homes c.self.invariant.0) in
    rw t.lists (shows s.clock s.lists.room s.entries.items c.take.new.entries.items c.in-Some.slot empty Free made t.entries.3 refl ∙ ap (λ xs. slice_set xs c.in-Some.slot Free) c.self.view_is)
