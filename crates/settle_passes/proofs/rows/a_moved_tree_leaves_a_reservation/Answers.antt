use Rattle.settle_passes.proofs.Worked.{a_moved_tree_leaves_a_reservation}
use Rattle.settle_passes.proofs.rows.a_moved_tree_leaves_a_reservation.Goals as goal

pub returns : goal.returns
returns c = a_moved_tree_leaves_a_reservation
