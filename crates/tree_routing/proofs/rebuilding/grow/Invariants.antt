use Rattle.std.proofs.Common.{take}
use Rattle.tree_routing.proofs.Rebuilt.{Grown}
use Rattle.tree_routing.proofs.rebuilding.grow.Given as goal

-- the tree of the hops so far
abbrev pub invariant-loop-hop : goal.invariant-loop-hop
invariant-loop-hop l = Grown l.ends l.links l.initial.all.items l.all.items l.group l.source (take l.hop-index l.hops)
