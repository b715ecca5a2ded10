use Rattle.std.proofs.Common.{ℕ, ◌<◌}
use Rattle.node_stream.specs.Layout.{iface_at}
use Rattle.node_stream.specs.Rules.{IsIface}
use Rattle.node_stream.proofs.range.ifaces_blame.Given as goal

abbrev pub invariant-loop-k : goal.invariant-loop-k
invariant-loop-k l = (j : ℕ) → j < l.k → IsIface (iface_at l.contents j)
