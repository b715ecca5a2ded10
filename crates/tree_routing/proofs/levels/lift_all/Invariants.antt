use Rattle.std.proofs.Common.{◌≡◌, false, drop}
use Rattle.tree_routing.specs.Levels.{lift}
use Rattle.tree_routing.proofs.levels.lift_all.Given as goal

-- what is done and what the rest does is the whole; where nothing rose, nothing is changed
abbrev pub invariant-loop-hop : goal.invariant-loop-hop
invariant-loop-hop l = (lift (drop l.hop-index l.hops) l.levels ≡ lift l.hops l.initial.levels) × ((l.rose ≡ false) → l.levels ≡ l.initial.levels)
