use Rattle.std.proofs.Common.{◌≡◌, drop}
use Rattle.std.specs.List.{list_any}
use Rattle.tree_model.specs.Trees.{goes_into}
use Rattle.tree_routing.proofs.hop_faults.enter.Given as goal

-- such a hop is among the rest, if there is one
abbrev pub invariant-loop-hop : goal.invariant-loop-hop
invariant-loop-hop l = list_any (goes_into l.ends l.node) (drop l.hop-index l.hops) ≡ list_any (goes_into l.ends l.node) l.hops
