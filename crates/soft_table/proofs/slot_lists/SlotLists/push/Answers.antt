use Rattle.std.proofs.Common.{◌<◌, ◌+◌, length, ap, arith}
use Rattle.soft_table.proofs.Moves.{made, read, prev_len}
use Rattle.soft_table.proofs.slot_lists.SlotLists.push.Goals as goal

pub invariant_of-self : goal.invariant_of-self
invariant_of-self c =
    let s = c.self.inside in
    let o = c.self.invariant in
    let homes = s.home.items in
    let head = c.from-head.result in
    let room : length homes < s.room = omega (arith, c.requires.room, ap (λ v. length v.homes) c.self.view_is, ap (λ v. v.room) c.self.view_is) in
    let last = read s.prev.items head c.index-last.result.now (omega (arith, c.requires.list, prev_len s.next.items s.prev.items homes s.room o.0)) c.index-last.ensures in (
      rw (c.push_reserved.ensures.items, c.push_reserved-2.ensures.items, c.push_reserved-3.ensures.items, ← c.from-head.ensures)
          (made s.next.items s.prev.items homes s.room o.0 (c.from.result + c.len-slot.result) head c.index-last.result.now room (omega arith) (omega (arith, c.requires.list)) last),
      omega (arith, c.push_reserved.ensures.capacity, o.1),
      omega (arith, c.push_reserved-2.ensures.capacity, o.2),
      omega (arith, c.push_reserved-3.ensures.capacity, o.3),
    )
