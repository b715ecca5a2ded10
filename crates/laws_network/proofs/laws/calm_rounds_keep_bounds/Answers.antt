use Rattle.laws_network.proofs.Keeping.{calm_rounds_keep_bounds}
use Rattle.laws_network.proofs.laws.calm_rounds_keep_bounds.Goals as goal

pub returns : goal.returns
returns c q w rs calm bounds = calm_rounds_keep_bounds q w rs calm bounds
