use Rattle.std.proofs.Common.{◌∙◌}
use Rattle.resv_sends.proofs.upward.toward.Goals as goal

pub returns-then-is_idle : goal.returns-then-is_idle
returns-then-is_idle c = λ clock said. c.new.ensures ∙ c.is_idle.ensures c.if-is_idle.true clock said c.args.hop
