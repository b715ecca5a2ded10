use Rattle.std.proofs.Common.{◌≡◌, ◌-◌, ◌≤◌, length, take}
use Rattle.tree_model.specs.Trees.{trees_of}
use Rattle.network_replay.specs.Routed.{trees_in}
use Rattle.network_replay.proofs.moving.routes_of.Given as goal

abbrev pub invariant-loop-group : goal.invariant-loop-group
invariant-loop-group l = (trees_in l.routes.items ≡ take (length l.routes.items) (trees_of l.routing.hops)) × (length l.routes.items ≤ length (trees_of l.routing.hops))

abbrev pub decreases-loop-group : goal.decreases-loop-group
decreases-loop-group l = length (trees_of l.routing.hops) - length l.routes.items
