use Rattle.std.proofs.Common.{◌≡◌, length}
use Rattle.network_flight.specs.Worlds.{route_of}
use Rattle.network_replay.proofs.Moves.{mixed}
use Rattle.network_replay.proofs.moving.put_routes.Given as goal

abbrev pub invariant-loop-k : goal.invariant-loop-k
invariant-loop-k l = record {
  many : length l.routes.items ≡ length l.initial.routes.items;
  are : l.routes.items ≡ mixed (route_of l.routing l.node) l.initial.routes.items l.k;
}
