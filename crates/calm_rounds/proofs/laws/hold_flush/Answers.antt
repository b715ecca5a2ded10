use Rattle.calm_rounds.proofs.Holding.{hold_flush}
use Rattle.calm_rounds.proofs.laws.hold_flush.Goals as goal

pub returns : goal.returns
returns g c m = hold_flush m
