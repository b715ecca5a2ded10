use Rattle.std.proofs.Common.{take}
use Rattle.tree_model.specs.Trees.{IsGrown}
use Rattle.tree_routing.proofs.topology.Topology.tree_fault.Given as goal

-- the hops before grow a tree
abbrev pub invariant-loop-place : goal.invariant-loop-place
invariant-loop-place l = IsGrown l.self l.source (take l.place l.hops)
