use Rattle.std.proofs.Common.{◌≡◌, take}
use Rattle.std.specs.Prelude.{map as each}
use Rattle.node_stream.proofs.placing.routes_of.Given as goal

abbrev pub invariant-loop-row : goal.invariant-loop-row
invariant-loop-row l = l.routes.items ≡ each (λ e. e.1) (take l.row-index l.rows)
