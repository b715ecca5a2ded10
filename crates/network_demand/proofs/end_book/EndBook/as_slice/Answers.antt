use Rattle.std.proofs.Common.{sym, ap, ◌∙◌}
use Rattle.rsvp_base.proofs.Rows.{each_itself}
use Rattle.style_rules.specs.Lines.{BookTable}
use Rattle.network_demand.proofs.end_book.EndBook.as_slice.Goals as goal

pub returns : goal.returns
returns c = c.as_slice.ensures.value ∙ sym (each_itself c.self.inside.rows.items) ∙ ap (λ (b : BookTable). b.rows) c.self.view_is
