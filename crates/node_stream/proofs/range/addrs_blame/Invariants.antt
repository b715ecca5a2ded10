use Rattle.std.proofs.Common.{◌≢◌, ℕ, ◌<◌}
use Rattle.node_stream.specs.Rules.{iface_addr}
use Rattle.node_stream.proofs.range.addrs_blame.Given as goal

abbrev pub invariant-loop-k : goal.invariant-loop-k
invariant-loop-k l = (i j : ℕ) → i < j → j < l.k → iface_addr l.contents i ≢ iface_addr l.contents j
