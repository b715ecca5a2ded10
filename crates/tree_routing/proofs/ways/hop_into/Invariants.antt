use Rattle.std.proofs.Common.{◌≡◌, drop, map}
use Rattle.tree_model.specs.Trees.{first_by, goes_into, end_into}
use Rattle.tree_routing.proofs.ways.hop_into.Given as goal

-- the hop is among the rest
abbrev pub invariant-loop-hop : goal.invariant-loop-hop
invariant-loop-hop l = end_into (first_by (goes_into l.ends l.node) (map (λ r. r.hop) (drop l.hop-index l.hops))) ≡ end_into (first_by (goes_into l.ends l.node) (map (λ r. r.hop) l.hops))
