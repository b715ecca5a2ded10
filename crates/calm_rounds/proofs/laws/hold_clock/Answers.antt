use Rattle.calm_rounds.proofs.Holding.{hold_clock}
use Rattle.calm_rounds.proofs.laws.hold_clock.Goals as goal

pub returns : goal.returns
returns g c m = hold_clock m
