use Rattle.std.proofs.Common.{◌≡◌}
use Rattle.std.specs.Prelude.{map as each}
use Rattle.std.specs.List.{range_with_len}
use Rattle.node_stream.specs.Layout.{iface_at}
use Rattle.node_stream.proofs.placing.ifaces_in.Given as goal

abbrev pub invariant-loop-k : goal.invariant-loop-k
invariant-loop-k l = l.ifaces.items ≡ each (iface_at l.contents) (range_with_len 0 l.k)
