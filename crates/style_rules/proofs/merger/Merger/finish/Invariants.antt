use Rattle.std.proofs.Common.{◌≡◌, take, map as each}
use Rattle.style_rules.proofs.merger.Merger.finish.Given as goal

abbrev pub invariant-loop-row : goal.invariant-loop-row
invariant-loop-row g l = l.rows.items ≡ each (λ r. (r.unit, r.part)) (take l.row-index l.row-items)
