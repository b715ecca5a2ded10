use Rattle.std.proofs.Common.{◌≡◌, ◌++◌, map as each, take}
use Rattle.network_model.specs.Steps.{tree_hop}
use Rattle.grown_network.specs.Grown.{net_with}
use Rattle.grown_network.specs.Hops.{hops_away}
use Rattle.grown_network.proofs.growing.add_tree.Given as goal

-- with the first hops
abbrev pub invariant-loop-hop : goal.invariant-loop-hop
invariant-loop-hop l = l.topology ≡ net_with (l.initial.topology.hops ++ each (tree_hop l.sender.session.group l.sender.sender.addr) (take l.hop-index (hops_away l.sender.node)))
