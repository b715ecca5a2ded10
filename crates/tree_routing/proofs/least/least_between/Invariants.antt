use Rattle.std.proofs.Common.{take}
use Rattle.tree_routing.specs.Checks.{IsLeastAmong}
use Rattle.tree_routing.proofs.least.least_between.Given as goal

-- the least of those so far
abbrev pub invariant-loop-hop : goal.invariant-loop-hop
invariant-loop-hop l = IsLeastAmong l.hops (take l.hop-index l.hops) l.new l.before l.least
