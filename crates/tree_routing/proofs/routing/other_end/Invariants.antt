use Rattle.std.proofs.Common.{◌≡◌, ◌==◌, drop}
use Rattle.std.specs.Prelude.{not, slice_get}
use Rattle.std.specs.List.{filter}
use Rattle.tree_routing.proofs.routing.other_end.Given as goal

-- so many others of the rest stand before it
abbrev pub invariant-loop-other : goal.invariant-loop-other
invariant-loop-other l = slice_get (filter (λ x. not (x == l.end)) (drop l.other-index l.link)) l.left ≡ slice_get (filter (λ x. not (x == l.end)) l.link) l.k
