use Rattle.std.proofs.Common.{◌≡◌, ℕ, ◌+◌, false}
use Rattle.tree_routing.specs.Marks.{passes, moves, off, bit}
use Rattle.tree_routing.proofs.marks.spread.Given as goal

abbrev pub invariant-loop-moved : goal.invariant-loop-moved
invariant-loop-moved l = ((n : ℕ) × (l.marks ≡ passes n l.hops l.initial.marks)) × (l.moved ≡ false → moves l.hops l.marks ≡ false)

abbrev pub decreases-loop-moved : goal.decreases-loop-moved
decreases-loop-moved l = off l.marks + bit l.moved
