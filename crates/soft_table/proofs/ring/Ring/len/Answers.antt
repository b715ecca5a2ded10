use Rattle.std.proofs.Common.{length, sym, ap, ◌∙◌}
use Rattle.soft_table.proofs.Rings.{length_walked}
use Rattle.soft_table.proofs.ring.Ring.len.Goals as goal

pub returns : goal.returns
returns c = sym (length_walked c.self.inside.next.items c.self.inside.len 0) ∙ ap (λ v. length v.slots) c.self.view_is
