use Rattle.calm_rounds.proofs.Renewing.{comes_due}
use Rattle.calm_rounds.proofs.laws.comes_due.Goals as goal

pub returns : goal.returns
returns g c m t laws = comes_due m t g.L.Key.state laws
