use Rattle.std.proofs.Common.{◌≡◌, ◌==◌, drop}
use Rattle.std.specs.List.{list_any}
use Rattle.network_demand.proofs.paths.leaves_by.Given as goal

-- one of the rest, if one of all
abbrev pub invariant-loop-hop : goal.invariant-loop-hop
invariant-loop-hop l = list_any (λ h. h.from == l.end) (drop l.hop-index l.hops) ≡ list_any (λ h. h.from == l.end) l.hops
