use Rattle.std.proofs.Common.{◌≡◌, drop}
use Rattle.std.specs.List.{list_all}
use Rattle.tree_model.specs.Trees.{tree}
use Rattle.tree_routing.specs.Known.{plain}
use Rattle.tree_routing.specs.Found.{leaves_link}
use Rattle.tree_routing.proofs.ask.all_alone.Given as goal

-- the rest decides
abbrev pub invariant-loop-hop : goal.invariant-loop-hop
invariant-loop-hop l = list_all (leaves_link l.link l.end) (tree (plain (drop l.hop-index l.hops)) l.group l.source) ≡ list_all (leaves_link l.link l.end) (tree (plain l.hops) l.group l.source)
