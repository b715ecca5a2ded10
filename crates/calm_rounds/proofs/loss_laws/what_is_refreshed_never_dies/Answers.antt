use Rattle.std.proofs.Common.{◌*◌, arith}
use Rattle.calm_rounds.proofs.Renewed.{never_dies}
use Rattle.calm_rounds.proofs.loss_laws.what_is_refreshed_never_dies.Goals as goal

pub returns : goal.returns
returns g c m t s laws paced v n ss w quiet any moves made fresh good lasts =
    never_dies m t s g.L.Key.state laws paced v n moves (3 * m.quarter) 2 (omega arith) ss w quiet any made fresh good lasts.dies lasts.kept lasts.moment lasts.due (omega (arith, lasts.long))
