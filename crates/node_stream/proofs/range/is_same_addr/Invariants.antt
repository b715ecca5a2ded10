use Rattle.std.proofs.Common.{◌≢◌, ℕ, ◌<◌}
use Rattle.node_stream.specs.Rules.{iface_addr}
use Rattle.node_stream.proofs.range.is_same_addr.Given as goal

abbrev pub invariant-loop-j : goal.invariant-loop-j
invariant-loop-j l = (i : ℕ) → i < l.j → iface_addr l.contents i ≢ iface_addr l.contents l.k
