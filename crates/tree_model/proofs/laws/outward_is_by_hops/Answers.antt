use Rattle.tree_model.proofs.TreeLaws.{outward_is_by_hops}
use Rattle.tree_model.proofs.laws.outward_is_by_hops.Goals as goal

pub returns : goal.returns
returns c = outward_is_by_hops
