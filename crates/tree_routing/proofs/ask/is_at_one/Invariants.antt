use Rattle.std.proofs.Common.{◌≡◌, drop}
use Rattle.std.specs.List.{list_any}
use Rattle.tree_routing.specs.Found.{is_at}
use Rattle.tree_routing.proofs.ask.is_at_one.Given as goal

-- such an end is among the rest, if there is one
abbrev pub invariant-loop-end : goal.invariant-loop-end
invariant-loop-end l = list_any (is_at l.ends l.node) (drop l.end-index l.link) ≡ list_any (is_at l.ends l.node) l.link
