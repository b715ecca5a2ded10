use Rattle.std.proofs.Common.{sym, subst}
use Rattle.std.specs.Fmt.{HasWritten}
use Rattle.command_run.proofs.StatusTexts.{dotted}
use Rattle.command_run.proofs.texts.DottedDisplay.fmt.Goals as goal

pub returns-clause-writes : goal.returns-clause-writes
returns-clause-writes g c = λ plain ok. subst (λ t. HasWritten g.W.Write.write_str_gives c.args.f.now t c.write.new.self) (sym (dotted c.args.self.now.0)) (c.write.ensures.writes plain ok)
