use Rattle.std.proofs.Common.{arith, sym, ◌∙◌}
use Rattle.byte_streams.proofs.Front.{left_is_given_and_rest, none_left}
use Rattle.byte_streams.proofs.plain.PlainSourceSource.take.Goals as goal

pub returns-clause-bytes : goal.returns-clause-bytes
returns-clause-bytes c =
    let given = rw c.deref.ensures.value at c.copy_front-count.ensures in
    let items = c.self.inside.bytes.items in
    let at = c.self.inside.at in
    (sym c.self.view_is ∙ left_is_given_and_rest items _ at _ given.front, none_left items at _ _ _ given.count (omega arith))
