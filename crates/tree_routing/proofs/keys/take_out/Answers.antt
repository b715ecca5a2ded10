use Rattle.tree_routing.proofs.TreesThen.{not_there}
use Rattle.tree_routing.proofs.keys.take_out.Goals as goal

pub returns-in_default : goal.returns-in_default
returns-in_default c = not_there c.args.trees.now.items c.args.tree _ (rw c.as_slice.ensures.value at c.in_default.ensures.absent)
