use Rattle.network_model.proofs.Changing.{a_piece_changes_every_node}
use Rattle.network_model.proofs.laws.a_piece_changes_every_node.Goals as goal

pub returns : goal.returns
returns c q w ms = a_piece_changes_every_node q w ms
