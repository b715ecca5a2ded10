use Rattle.std.proofs.Common.{ℕ, ◌<◌}
use Rattle.node_stream.specs.Layout.{iface_count, route_at}
use Rattle.node_stream.specs.Rules.{IsRoute}
use Rattle.node_stream.proofs.range.routes_blame.Given as goal

abbrev pub invariant-loop-k : goal.invariant-loop-k
invariant-loop-k l = (j : ℕ) → j < l.k → IsRoute (iface_count l.contents) (route_at l.contents j)
