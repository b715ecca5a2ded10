use Rattle.std.proofs.Common.{◌≡◌, drop}
use Rattle.std.specs.List.{list_any}
use Rattle.tree_model.specs.Trees.{of_tree}
use Rattle.tree_routing.specs.Known.{plain}
use Rattle.tree_routing.proofs.ask.has_tree.Given as goal

-- among the rest, if at all
abbrev pub invariant-loop-hop : goal.invariant-loop-hop
invariant-loop-hop l = list_any (of_tree l.group l.source) (plain (drop l.hop-index l.hops)) ≡ list_any (of_tree l.group l.source) (plain l.hops)
