use Rattle.std.proofs.Common.{◌≡◌}
use Rattle.std.specs.Prelude.{map as each}
use Rattle.std.specs.List.{range_with_len}
use Rattle.tree_model.specs.Networks.{ends_of}
use Rattle.network_flight.proofs.tables.ends_by_node.Given as goal

abbrev pub invariant-loop-node : goal.invariant-loop-node
invariant-loop-node l = each (λ v. v.items) l.table.items ≡ each (ends_of l.ends) (range_with_len 0 l.node)
