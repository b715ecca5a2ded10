use Rattle.std.proofs.Common.{take}
use Rattle.tree_routing.specs.Reroutes.{IsLeastClosed}
use Rattle.tree_routing.proofs.chains.least_closed.Given as goal

-- the least of those so far
abbrev pub invariant-loop-hop : goal.invariant-loop-hop
invariant-loop-hop l = IsLeastClosed l.hops (take l.hop-index l.hops) l.group l.least
