use Rattle.std.proofs.Common.{◌≡◌, ◌-◌, length}
use Rattle.tree_routing.specs.Levels.{lifts}
use Rattle.tree_routing.proofs.levels.settle.Given as goal

-- what is done and what the rest does is the whole
abbrev pub invariant-loop-pass : goal.invariant-loop-pass
invariant-loop-pass l = lifts (length l.hops - l._pass) l.hops l.levels ≡ lifts (length l.hops) l.hops l.initial.levels
