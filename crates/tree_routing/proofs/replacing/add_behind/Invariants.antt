use Rattle.std.proofs.Common.{◌≡◌, ◌++◌, not, drop}
use Rattle.std.specs.List.{filter}
use Rattle.std.specs.Ordering.{is_le}
use Rattle.tree_routing.specs.Routes.{against_tree}
use Rattle.tree_routing.proofs.replacing.add_behind.Given as goal

-- those so far, and those of the rest
abbrev pub invariant-loop-hop : goal.invariant-loop-hop
invariant-loop-hop l =
    l.all.items ++ filter (λ r. not (is_le (against_tree l.group l.source r))) (drop l.hop-index l.sorted)
    ≡ l.initial.all.items ++ filter (λ r. not (is_le (against_tree l.group l.source r))) l.sorted
