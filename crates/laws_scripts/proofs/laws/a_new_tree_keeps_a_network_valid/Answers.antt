use Rattle.tree_routing.proofs.ValidReroutes.{valid_rerouted}
use Rattle.laws_scripts.proofs.laws.a_new_tree_keeps_a_network_valid.Goals as goal

pub returns : goal.returns
returns c net g s hs valid few grown free = valid_rerouted net valid g s hs few grown free
