use Rattle.network_model.proofs.Changing.{a_delivery_changes_one_node}
use Rattle.network_model.proofs.laws.a_delivery_changes_one_node.Goals as goal

pub returns : goal.returns
returns c q w k x e there end = a_delivery_changes_one_node q w k x e there end
