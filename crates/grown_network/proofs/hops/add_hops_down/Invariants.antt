use Rattle.std.proofs.Common.{◌≡◌, ◌++◌, ◌-◌}
use Rattle.grown_network.specs.Hops.{hops_down}
use Rattle.grown_network.proofs.hops.add_hops_down.Given as goal

abbrev pub invariant-loop-node : goal.invariant-loop-node
invariant-loop-node l = l.hops.items ≡ l.initial.hops.items ++ hops_down l.way (l.node - 1)
