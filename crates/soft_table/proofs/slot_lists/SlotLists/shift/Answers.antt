use Rattle.std.proofs.Common.{◌<◌, ◌+◌, set, length, ap, arith}
use Rattle.soft_table.proofs.Moves.{moved, last_in, read, next_len, prev_len}
use Rattle.std.proofs.lemmas.List.{length-set}
use Rattle.soft_table.proofs.slot_lists.SlotLists.shift.Goals as goal

pub index_mut-requires-3 : goal.index_mut-requires-3
index_mut-requires-3 c =
    let s = c.self.inside in
    let a = c.self.invariant.0 in
    let homes = s.home.items in
    let i = c.from.result + c.args.slot in
    let p = c.index-before.result.now in
    let q = c.index-behind.result.now in
    let head = c.from-head.result in
    let nexts = next_len s.next.items s.prev.items homes s.room a in
    let prevs = prev_len s.next.items s.prev.items homes s.room a in
    let here : c.args.slot < length homes = omega (arith, ap (λ v. length v.homes) c.self.view_is, c.requires.here) in
    let less : i < 259 + length homes = omega (arith, here) in
    let head_in : head < length (set s.prev.items q p) = omega (arith, length-set s.prev.items q p, c.requires.list, prevs) in
    let in_ = last_in s.next.items s.prev.items homes s.room a c.args.slot i head p q c.index-last.result.now here (omega arith) (omega (arith, c.requires.list))
    (read s.prev.items i p (omega (arith, less, prevs)) c.index-before.ensures)
    (read s.next.items i q (omega (arith, less, nexts)) c.index-behind.ensures)
    (read (set s.prev.items q p) head c.index-last.result.now head_in c.index-last.ensures) in
    omega (arith, in_, nexts)

pub invariant_of-self : goal.invariant_of-self
invariant_of-self c =
    let s = c.self.inside in
    let o = c.self.invariant in
    let homes = s.home.items in
    let i = c.from.result + c.args.slot in
    let p = c.index-before.result.now in
    let q = c.index-behind.result.now in
    let head = c.from-head.result in
    let nexts = next_len s.next.items s.prev.items homes s.room o.0 in
    let prevs = prev_len s.next.items s.prev.items homes s.room o.0 in
    let here : c.args.slot < length homes = omega (arith, ap (λ v. length v.homes) c.self.view_is, c.requires.here) in
    let less : i < 259 + length homes = omega (arith, here) in
    let head_in : head < length (set s.prev.items q p) = omega (arith, length-set s.prev.items q p, c.requires.list, prevs) in (
      rw (← c.from-head.ensures) (moved s.next.items s.prev.items homes s.room o.0 c.args.slot i head p q c.index-last.result.now here (omega arith) (omega (arith, c.requires.list))
          (read s.prev.items i p (omega (arith, less, prevs)) c.index-before.ensures)
          (read s.next.items i q (omega (arith, less, nexts)) c.index-behind.ensures)
          (read (set s.prev.items q p) head c.index-last.result.now head_in c.index-last.ensures)),
      o.1,
      o.2,
      o.3,
    )
