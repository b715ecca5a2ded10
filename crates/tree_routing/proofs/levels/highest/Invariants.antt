use Rattle.std.proofs.Common.{◌≡◌, drop, max}
use Rattle.tree_routing.specs.Levels.{highest}
use Rattle.tree_routing.proofs.levels.highest.Given as goal

-- the highest so far and of the rest is that of all
abbrev pub invariant-loop-hop : goal.invariant-loop-hop
invariant-loop-hop l = max l.most (highest (drop l.hop-index l.hops) l.levels) ≡ highest l.hops l.levels
