use Rattle.std.proofs.Common.{◌≡◌, take, map as each}
use Rattle.tree_routing.specs.Routes.{as_row}
use Rattle.tree_routing.proofs.KeyLaws.{set_at}
use Rattle.tree_routing.proofs.keys.trees_of.Given as goal

-- the trees of the hops so far
abbrev pub invariant-loop-hop : goal.invariant-loop-hop
invariant-loop-hop l = each as_row l.trees.items ≡ (set_at (take l.hop-index l.hops)).rows
