use Rattle.std.proofs.Common.{sym, ◌∙◌}
use Rattle.path_sends.proofs.Renewed.{local_again, same_again}
use Rattle.path_sends.proofs.renewal.Renewal.of.Goals as goal

pub returns-then-local : goal.returns-then-local
returns-then-local c = λ own is. local_again own (is ∙ c.if-local.true) c.args.was.now.tspec c.args.tspec c.args.was.now.adspec c.args.kept.now

pub returns-then-same_told : goal.returns-then-same_told
returns-then-same_told c = λ own is.
    same_again own (is ∙ c.if-local.false) c.args.was.now.tspec c.args.tspec c.args.was.now.adspec c.args.kept.now
    (sym c.is_same_flow.ensures ∙ c.if-is_same_flow.true) (sym c.same_told.ensures ∙ c.if-same_told.true)
