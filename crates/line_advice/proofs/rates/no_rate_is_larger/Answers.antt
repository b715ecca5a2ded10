use Rattle.line_advice.proofs.NearestRates.{no_larger}
use Rattle.line_advice.proofs.rates.no_rate_is_larger.Goals as goal

pub returns : goal.returns
returns c = no_larger
