use Rattle.std.proofs.Common.{◌≡◌, ◌+◌, take, sum_by}
use Rattle.style_rules.specs.Parts.{part_charge}
use Rattle.network_demand.proofs.end_book.is_within.Given as goal

-- what is left, and those so far
abbrev pub invariant-loop-row : goal.invariant-loop-row
invariant-loop-row l = l.left + sum_by (λ r. part_charge r.1) (take l.row-index l.rows) ≡ l.capacity
