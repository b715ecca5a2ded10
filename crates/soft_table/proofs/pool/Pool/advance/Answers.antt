use Rattle.std.proofs.Common.{◌+◌, ◌∙◌, ap, sym, subst, arith, map as each}
use Rattle.soft_table.specs.Cells.{aged}
use Rattle.soft_table.specs.Wheel.{AreFiled}
use Rattle.soft_table.proofs.Passing.{filed_sooner, filed_while, filed_later}
use Rattle.soft_table.proofs.Pools.{as_many, aged_on}
use Rattle.soft_table.proofs.pool.Pool.advance.Goals as goal

-- ---- where nothing can run out
pub invariant_of-self : goal.invariant_of-self
invariant_of-self g c =
    let s = c.self.inside in
    let o = c.self.invariant in
    let r = c.rewind-clock in
    let now = r.result + c.from.result in (
      record {
        few = omega (arith, o.0.few, as_many s.clock r.result s.entries.items r.new.entries.items r.ensures.shown);
        most = o.0.most;
        filed = filed_while r.result r.new.soonest now r.new.entries.items s.lists.homes (omega arith) c.if-now-self.true (r.ensures.lists s.lists.homes o.0.filed);
        ahead = omega (arith, c.if-now-self.true);
        early = omega (arith, r.ensures.early, c.from.ensures, c.ranges.ms.fits);
      },
      rw r.ensures.capacity o.1,
      o.2,
    )

pub returns-then-now-self : goal.returns-then-now-self
returns-then-now-self g c =
    let s = c.self.inside in
    let r = c.rewind-clock in
    rw c.from.ensures (aged_on s.clock r.result s.lists.room c.args.ms s.entries.items r.new.entries.items r.ensures.shown ∙ ap (each (aged c.args.ms)) c.self.view_is)

-- ---- where lists are passed
pub pass-requires-clause-lists : goal.pass-requires-clause-lists
pass-requires-clause-lists g c =
    let s = c.self.inside in
    let r = c.rewind-clock in
    let filed = filed_sooner r.result r.new.soonest r.result r.new.entries.items s.lists.homes r.ensures.ahead (r.ensures.lists s.lists.homes c.self.invariant.0.filed) in
    subst (λ es. AreFiled r.result r.result es s.lists.homes) (sym c.as_slice.ensures.value) filed

pub invariant_of-self-2 : goal.invariant_of-self-2
invariant_of-self-2 g c =
    let s = c.self.inside in
    let o = c.self.invariant in
    let r = c.rewind-clock in
    let now = r.result + c.from.result in
    let homes = c.pass.new.lists.homes in
    let soonest = c.soonest_after-self-inside in
    let filed = subst (λ es. AreFiled now now es homes) c.as_slice.ensures.value c.pass.ensures.lists in (
      rw c.pass.ensures.room (record {
        few = omega (arith, o.0.few, as_many s.clock r.result s.entries.items r.new.entries.items r.ensures.shown);
        most = o.0.most;
        filed = filed_later now now soonest.result r.new.entries.items homes soonest.ensures.none filed;
        ahead = soonest.ensures.ahead;
        early = omega (arith, r.ensures.early, c.from.ensures, c.ranges.ms.fits);
      }),
      rw (c.pass.ensures.room, r.ensures.capacity) o.1,
      λ may. cc,
    )

pub returns : goal.returns
returns g c =
    let s = c.self.inside in
    let r = c.rewind-clock in
    rw (c.pass.ensures.room, c.from.ensures) (aged_on s.clock r.result s.lists.room c.args.ms s.entries.items r.new.entries.items r.ensures.shown ∙ ap (each (aged c.args.ms)) c.self.view_is)
