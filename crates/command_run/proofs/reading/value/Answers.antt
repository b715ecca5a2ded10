use Rattle.std.proofs.Common.{◌∙◌}
use Rattle.command_run.proofs.Digits.{read}
use Rattle.command_run.proofs.reading.value.Goals as goal

pub returns : goal.returns
returns c = c.ok.ensures.value ∙ read c.args.digits.now c.parse.result c.parse.ensures.value.0 c.requires
