use Rattle.network_model.proofs.Changing.{the_rest_change_no_node}
use Rattle.network_model.proofs.laws.the_rest_change_no_node.Goals as goal

pub returns : goal.returns
returns c q w s e = the_rest_change_no_node q w s e
