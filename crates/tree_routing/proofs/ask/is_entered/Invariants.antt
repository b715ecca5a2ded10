use Rattle.std.proofs.Common.{◌≡◌, drop}
use Rattle.std.specs.List.{list_any}
use Rattle.tree_model.specs.Trees.{goes_into, tree}
use Rattle.tree_routing.specs.Known.{plain}
use Rattle.tree_routing.proofs.ask.is_entered.Given as goal

-- such a hop is among the rest, if there is one
abbrev pub invariant-loop-hop : goal.invariant-loop-hop
invariant-loop-hop l = list_any (goes_into l.ends l.node) (tree (plain (drop l.hop-index l.hops)) l.group l.source) ≡ list_any (goes_into l.ends l.node) (tree (plain l.hops) l.group l.source)
