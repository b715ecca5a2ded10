use Rattle.tree_model.proofs.WantLaws.{fit_bounds}
use Rattle.tree_model.proofs.demands.fit_bounds_the_goal.Goals as goal

pub returns : goal.returns
returns c = fit_bounds
