use Rattle.std.proofs.Common.{◌≡◌}
use Rattle.std.specs.Prelude.{map as each}
use Rattle.std.specs.List.{range_with_len}
use Rattle.tree_model.specs.Networks.{iface_of}
use Rattle.network_flight.proofs.tables.ifaces.Given as goal

abbrev pub invariant-loop-end : goal.invariant-loop-end
invariant-loop-end l = l.table.items ≡ each (iface_of l.ends) (range_with_len 0 l.end)
