use Rattle.std.proofs.Common.{arith}
use Rattle.calm_rounds.proofs.Renewed.{never_dies}
use Rattle.calm_rounds.proofs.loss_laws.what_is_refreshed_often_enough_never_dies.Goals as goal

pub returns : goal.returns
returns g c m t s laws paced wait few room v n ss w quiet any moves made fresh good d moment kept due long =
    never_dies m t s g.L.Key.state laws paced v n moves wait few room ss w quiet any made fresh good d kept moment due (omega (arith, long))
