use Rattle.std.proofs.Common.{◌≤◌, take}
use Rattle.std.specs.List.{All}
use Rattle.network_demand.proofs.end_book.are_short.Given as goal

-- those so far are
abbrev pub invariant-loop-row : goal.invariant-loop-row
invariant-loop-row l = All (λ r. r.1.flow.most ≤ l.mtu) (take l.row-index l.rows)
