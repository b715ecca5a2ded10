use Rattle.std.proofs.Common.{◌≡◌, ◌++◌, drop}
use Rattle.tree_routing.specs.Known.{plain}
use Rattle.tree_routing.proofs.replacing.plain.Given as goal

-- those so far, and those of the rest
abbrev pub invariant-loop-hop : goal.invariant-loop-hop
invariant-loop-hop l = l.all.items ++ plain (drop l.hop-index l.hops) ≡ plain l.hops
