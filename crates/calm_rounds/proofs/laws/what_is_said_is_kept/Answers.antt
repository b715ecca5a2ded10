use Rattle.calm_rounds.proofs.Renewing.{what_is_said_is_kept}
use Rattle.calm_rounds.proofs.laws.what_is_said_is_kept.Goals as goal

pub returns : goal.returns
returns g c m t s laws q v rs w calm moves = what_is_said_is_kept m t s g.L.Key.state laws v q rs w calm moves
