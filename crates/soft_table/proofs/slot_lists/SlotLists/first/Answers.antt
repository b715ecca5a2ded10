use Rattle.std.proofs.Common.{◌≡◌, ◌<◌, ◌+◌, ◌++◌, ◌∙◌, Some, length, ap, arith}
use Rattle.std.specs.Prelude.{slice_get}
use Rattle.std.proofs.lemmas.Option.{get_or_from_slice_get, slice_get_within}
use Rattle.soft_table.specs.Links.{at}
use Rattle.soft_table.proofs.Moves.{none_first, read, home_at, next_len}
use Rattle.soft_table.proofs.slot_lists.SlotLists.first.Goals as goal

pub returns-else-first-from-clause-none : goal.returns-else-first-from-clause-none
returns-else-first-from-clause-none c = λ _ i is.
    let s = c.self.inside in
    let a = c.self.invariant.0 in
    let homes = s.home.items in
    let in_list : slice_get homes i ≡ Some c.args.list = ap (λ v. slice_get v.homes i) c.self.view_is ∙ is in
    let lt : i < length homes = slice_get_within homes i c.args.list in_list in
    let home_is : at (a.heads ++ homes) (259 + i) ≡ c.args.list = home_at s.next.items s.prev.items homes s.room a i ∙ get_or_from_slice_get homes i c.args.list 0 in_list in
    let all = next_len s.next.items s.prev.items homes s.room a in
    let first = read s.next.items c.from.result c.index-first.result.now (omega (arith, c.requires, all)) c.index-first.ensures in
    let k = c.args.list in
    none_first (259 + length homes) s.next.items s.prev.items (a.heads ++ homes) a.rank a.linked (259 + i) k c.index-first.result.now (first ∙ ap (at s.next.items) (omega arith))
    (omega (arith, c.if-first-from.false)) c.requires (omega arith) (omega (arith, lt)) home_is
