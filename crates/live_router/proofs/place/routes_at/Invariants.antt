use Rattle.std.proofs.Common.{◌≡◌, ◌-◌, ◌≤◌, length, take}
use Rattle.std.specs.Prelude.{map as each}
use Rattle.network_model.specs.Worlds.{route_of}
use Rattle.tree_model.specs.Trees.{trees_of}
use Rattle.live_router.proofs.place.routes_at.Given as goal

-- those of the first trees so far
abbrev pub invariant-loop-group : goal.invariant-loop-group
invariant-loop-group l = (l.routes.items ≡ each (route_of l.routing l.node) (take (length l.routes.items) (trees_of l.routing.hops))) × (length l.routes.items ≤ length (trees_of l.routing.hops))

abbrev pub decreases-loop-group : goal.decreases-loop-group
decreases-loop-group l = length (trees_of l.routing.hops) - length l.routes.items
