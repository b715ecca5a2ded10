use Rattle.std.proofs.Common.{◌≤◌, length, take}
use Rattle.tree_routing.proofs.Rebuilt.{Others}
use Rattle.tree_routing.proofs.rebuilding.others.Given as goal

-- those so far
abbrev pub invariant-loop-hop : goal.invariant-loop-hop
invariant-loop-hop l =
    record {
      are : Others (take l.hop-index l.hops) l.all.items l.group l.source;
      few : length l.all.items ≤ l.hop-index;
    }
