use Rattle.std.proofs.Common.{◌≡◌}
use Rattle.std.specs.Prelude.{map as each}
use Rattle.std.specs.List.{range_with_len}
use Rattle.tree_model.specs.Networks.{peers}
use Rattle.network_flight.proofs.tables.peers_by_end.Given as goal

abbrev pub invariant-loop-end : goal.invariant-loop-end
invariant-loop-end l = each (λ v. v.items) l.table.items ≡ each (peers l.routing.links) (range_with_len 0 l.end)
