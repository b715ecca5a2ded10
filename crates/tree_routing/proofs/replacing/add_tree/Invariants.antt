use Rattle.std.proofs.Common.{◌≡◌, ◌++◌, drop, map as each}
use Rattle.tree_routing.specs.Reroutes.{tree_hop}
use Rattle.tree_routing.proofs.replacing.add_tree.Given as goal

-- those so far, and those of the rest
abbrev pub invariant-loop-hop : goal.invariant-loop-hop
invariant-loop-hop l = l.all.items ++ each (tree_hop l.group l.source) (drop l.hop-index l.tree) ≡ l.initial.all.items ++ each (tree_hop l.group l.source) l.tree
