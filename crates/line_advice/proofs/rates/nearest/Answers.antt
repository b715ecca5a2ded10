use Rattle.std.proofs.Common.{arith}
use Rattle.line_advice.proofs.NearestRates.{nearest_rates, step_is, zeros}
use Rattle.line_advice.proofs.rates.nearest.Goals as goal

pub overflow_sub-step : goal.overflow_sub-step
overflow_sub-step c = omega (arith, zeros c.args.n c.requires.none c.requires.small)

pub returns : goal.returns
returns c = rw (step_is c.args.n c.requires.none c.requires.small) (nearest_rates c.args.n c.requires.none c.requires.small)
