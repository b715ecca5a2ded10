use Rattle.std.proofs.Common.{length, sym, ap, ◌∙◌}
use Rattle.soft_table.proofs.Held.{length_rows}
use Rattle.soft_table.proofs.session_lists.SessionLists.len.Goals as goal

pub returns : goal.returns
returns g c = c.len.ensures ∙ sym (length_rows c.self.inside.keys.items c.self.inside.slots.slots c.self.invariant.0.full) ∙ ap (λ v. length v.rows) c.self.view_is
