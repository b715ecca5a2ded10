use Rattle.std.proofs.Common.{ap, ◌∙◌}
use Rattle.std.specs.List.{list_any}
use Rattle.resv_sends.proofs.Marked.{any_asked}
use Rattle.resv_sends.proofs.marks.has_mark.Goals as goal

pub returns : goal.returns
returns c = c.is_any_marked.ensures ∙ any_asked c.of.result.now ∙ ap (list_any (λ e. e.1.confirm)) c.of.ensures.rows
