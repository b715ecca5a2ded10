use Rattle.std.proofs.Common.{◌≡◌, ◌-◌}
use Rattle.grown_network.specs.Nodes.{names_up_to}
use Rattle.grown_network.proofs.names.names.Given as goal

abbrev pub invariant-loop-node : goal.invariant-loop-node
invariant-loop-node l = l.names.items ≡ names_up_to (l.node - 1)
