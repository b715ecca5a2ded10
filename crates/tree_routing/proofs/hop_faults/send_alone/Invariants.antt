use Rattle.std.proofs.Common.{◌≡◌, drop}
use Rattle.std.specs.List.{list_all}
use Rattle.tree_routing.specs.Found.{leaves_link}
use Rattle.tree_routing.proofs.hop_faults.send_alone.Given as goal

-- the rest decides
abbrev pub invariant-loop-hop : goal.invariant-loop-hop
invariant-loop-hop l = list_all (leaves_link l.link l.end) (drop l.hop-index l.hops) ≡ list_all (leaves_link l.link l.end) l.hops
