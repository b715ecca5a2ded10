use Rattle.network_model.proofs.Worked.{moved_tree}
use Rattle.network_model.proofs.rows.moved_tree.Goals as goal

pub returns : goal.returns
returns c = moved_tree
