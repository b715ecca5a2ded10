use Rattle.std.proofs.Common.{◌≡◌, ◌++◌, map as each, take}
use Rattle.grown_network.specs.Hops.{hop_up}
use Rattle.grown_network.proofs.hops.add_hops_up.Given as goal

abbrev pub invariant-loop-node : goal.invariant-loop-node
invariant-loop-node l = l.hops.items ≡ l.initial.hops.items ++ each hop_up (take l.node-index l.way)
