use Rattle.std.proofs.Common.{◌≡◌, ◌++◌, ◌-◌}
use Rattle.grown_network.specs.Hops.{climb, way_up}
use Rattle.grown_network.proofs.hops.way_up.Given as goal

-- what the rest of the way adds to the nodes so far
abbrev pub invariant-loop-level : goal.invariant-loop-level
invariant-loop-level l = l.way.items ++ climb (6 - l._level) l.node ≡ way_up l.root
