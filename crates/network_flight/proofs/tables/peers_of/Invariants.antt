use Rattle.std.proofs.Common.{◌≡◌, ◌-◌, ◌≤◌, length, take}
use Rattle.tree_model.specs.Networks.{peers}
use Rattle.network_flight.proofs.tables.peers_of.Given as goal

abbrev pub invariant-loop-other : goal.invariant-loop-other
invariant-loop-other l = (l.found.items ≡ take (length l.found.items) (peers l.routing.links l.end)) × (length l.found.items ≤ length (peers l.routing.links l.end))

abbrev pub decreases-loop-other : goal.decreases-loop-other
decreases-loop-other l = length (peers l.routing.links l.end) - length l.found.items
