use Rattle.std.proofs.Common.{◌<◌, ◌≤◌, ◌+◌, ◌∙◌, ap, arith}
use Rattle.soft_table.proofs.Pools.{none_placed, pool_kept, pool_moved, renewed}
use Rattle.soft_table.proofs.pool.Pool.renew.Goals as goal

-- ---- where its moment comes earlier
pub invariant_of-self : goal.invariant_of-self
invariant_of-self g c =
    let s = c.self.inside in
    let o = c.self.invariant in
    let soonest = c.min-self-inside in
    let ahead : s.clock < s.clock + c.from.result = omega (arith, c.from.ensures, c.requires.some) in
    let moved = pool_moved s.clock s.lists.room (s.clock + c.from.result) s.entries.items c.args.slot.0 c.index_mut.result.now
    (rw c.self.view_is c.requires.live) c.index_mut.ensures.value s.lists.homes o.0 c.wheel_at.result soonest.result c.wheel_at.ensures ahead
    (omega (arith, ahead, o.0.ahead, soonest.ensures)) (omega (arith, soonest.ensures)) (omega (arith, soonest.ensures)) in (
      rw (c.shift.ensures, c.replace-was.ensures.after) moved,
      rw c.shift.ensures o.1,
      λ may. rw c.shift.ensures (none_placed s.lists.homes c.args.slot.0 c.wheel_at.result 1 (λ e. omega (arith, e, c.wheel_at.ensures)) (o.2 may)),
    )

pub returns-then-moment-was : goal.returns-then-moment-was
returns-then-moment-was g c =
    let s = c.self.inside in
    let at = c.replace-was.ensures.after ∙ ap (λ n. s.clock + n) c.from.ensures in
    rw (c.shift.ensures, ← c.self.view_is) (renewed s.clock s.lists.room c.replace-was.new.dest s.entries.items c.args.slot.0
    c.index_mut.result.now (rw c.self.view_is c.requires.live) c.index_mut.ensures.value c.args.left at c.requires.some)

-- ---- where it does not
pub invariant_of-self-else-moment-was : goal.invariant_of-self-else-moment-was
invariant_of-self-else-moment-was g c =
    let s = c.self.inside in
    let o = c.self.invariant in
    let later : c.index_mut.result.now.moment ≤ c.replace-was.new.dest =
    omega (arith, c.replace-was.ensures.value, c.replace-was.ensures.after, c.if-moment-was.false) in (
      pool_kept s.clock s.lists.room c.replace-was.new.dest s.entries.items c.args.slot.0 c.index_mut.result.now
          (rw c.self.view_is c.requires.live) c.index_mut.ensures.value s.lists.homes o.0 later,
      o.1,
      o.2,
    )

pub returns-else-moment-was : goal.returns-else-moment-was
returns-else-moment-was g c =
    let s = c.self.inside in
    let at = c.replace-was.ensures.after ∙ ap (λ n. s.clock + n) c.from.ensures in
    rw (← c.self.view_is) (renewed s.clock s.lists.room c.replace-was.new.dest s.entries.items c.args.slot.0 c.index_mut.result.now
    (rw c.self.view_is c.requires.live) c.index_mut.ensures.value c.args.left at c.requires.some)
