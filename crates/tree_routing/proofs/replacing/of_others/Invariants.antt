use Rattle.std.proofs.Common.{◌≡◌, ◌++◌, not, drop}
use Rattle.std.specs.List.{filter}
use Rattle.tree_model.specs.Trees.{of_tree}
use Rattle.tree_routing.proofs.replacing.of_others.Given as goal

-- those so far, and those of the rest
abbrev pub invariant-loop-hop : goal.invariant-loop-hop
invariant-loop-hop l = l.all.items ++ filter (λ r. not (of_tree l.group l.source r)) (drop l.hop-index l.hops) ≡ filter (λ r. not (of_tree l.group l.source r)) l.hops
