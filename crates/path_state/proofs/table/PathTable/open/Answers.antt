use Rattle.std.proofs.Common.{◌≡◌, [], ap, rules, map as each}
use Rattle.rsvp_base.specs.Table.{same_rows}
use Rattle.path_state.specs.declared.fact.PathFact.{PathFact}
use Rattle.path_state.specs.Paths.{fact_row, dead_row}
use Rattle.soft_table.specs.Facts.{Kept}
use Rattle.path_state.proofs.Answered.{same_map}
use Rattle.path_state.proofs.table.PathTable.open.Goals as goal

pub returns : goal.returns
returns c =
    let made : c.in_ok-table.table ≡ record { facts = []; dead = []; room = 512 } = search rules in
    same_map _ _ (same_rows _ _ (ap (λ (t : Kept PathFact). each fact_row t.facts) made)) (same_rows _ _ (ap (λ (t : Kept PathFact). each dead_row t.dead) made))
