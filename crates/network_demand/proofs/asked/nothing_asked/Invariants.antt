use Rattle.std.proofs.Common.{◌≡◌, ◌++◌, ◌-◌, [], replicate}
use Rattle.network_demand.proofs.asked.nothing_asked.Given as goal

-- those so far and the rest are all
abbrev pub invariant-loop-node : goal.invariant-loop-node
invariant-loop-node l = l.all.items ++ replicate (l.nodes - l._node) [] ≡ replicate l.nodes []
