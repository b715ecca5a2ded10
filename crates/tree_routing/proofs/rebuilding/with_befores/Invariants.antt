use Rattle.std.proofs.Common.{◌≡◌, ◌++◌, drop, map as each}
use Rattle.tree_routing.specs.Reroutes.{with_before}
use Rattle.tree_routing.proofs.rebuilding.with_befores.Given as goal

-- those so far, and those of the rest
abbrev pub invariant-loop-hop : goal.invariant-loop-hop
invariant-loop-hop l = l.all.items ++ each (with_before l.ends l.hops) (drop l.hop-index l.hops) ≡ each (with_before l.ends l.hops) l.hops
