use Rattle.std.proofs.Common.{◌≡◌, drop}
use Rattle.tree_routing.specs.Found.{are_apart}
use Rattle.tree_routing.proofs.ask.are_apart.Given as goal

-- the rest decides
abbrev pub invariant-loop-place : goal.invariant-loop-place
invariant-loop-place l = are_apart l.ends (drop l.place l.link) ≡ are_apart l.ends l.link
