use Rattle.std.proofs.Common.{◌≡◌, ◌-◌}
use Rattle.grown_network.specs.Growing.{hung_up_to}
use Rattle.grown_network.proofs.growing.hang_all.Given as goal

abbrev pub invariant-loop-node : goal.invariant-loop-node
invariant-loop-node l = l.topology ≡ hung_up_to (l.node - 1)
