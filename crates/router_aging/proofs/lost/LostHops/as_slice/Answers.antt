use Rattle.std.proofs.Common.{ap, ◌∙◌, map as each}
use Rattle.router_aging.specs.Lost.{LostTable, lost_row}
use Rattle.router_aging.proofs.lost.LostHops.as_slice.Goals as goal

pub returns-clause-rows : goal.returns-clause-rows
returns-clause-rows c = ap (each lost_row) c.as_slice.ensures.value ∙ ap (λ (t : LostTable). t.rows) c.self.view_is
