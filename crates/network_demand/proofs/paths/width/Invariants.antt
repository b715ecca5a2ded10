use Rattle.std.proofs.Common.{◌≤◌, length}
use Rattle.tree_model.specs.Networks.{peers}
use Rattle.network_demand.proofs.paths.width.Given as goal

-- there are so many at least
abbrev pub invariant-loop-k : goal.invariant-loop-k
invariant-loop-k l = l.k ≤ length (peers l.routing.links l.end)
