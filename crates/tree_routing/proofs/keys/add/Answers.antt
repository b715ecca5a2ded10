use Rattle.tree_routing.proofs.KeyLaws.{there_already}
use Rattle.tree_routing.proofs.keys.add.Goals as goal

pub returns-in_default : goal.returns-in_default
returns-in_default c = there_already c.args.trees.now.items c.args.tree _ (rw c.as_slice.ensures.value at c.in_default.ensures.there)
