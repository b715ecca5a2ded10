use Rattle.std.proofs.Common.{◌≡◌}
use Rattle.grown_network.specs.Growing.{nodes_alone}
use Rattle.grown_network.proofs.growing.add_nodes.Given as goal

abbrev pub invariant-loop-node : goal.invariant-loop-node
invariant-loop-node l = l.topology ≡ nodes_alone l._node
