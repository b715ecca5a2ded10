use Rattle.std.proofs.Common.{◌≡◌, [], ap, rules, map as each}
use Rattle.rsvp_base.specs.Table.{same_rows, changed_rows}
use Rattle.soft_table.specs.Facts.{Kept}
use Rattle.blockade_state.specs.declared.fact.Kept.{Kept as Fact}
use Rattle.blockade_state.specs.Blockades.{fact_row, wall_of}
use Rattle.blockade_state.proofs.table.Blockades.open.Goals as goal

pub returns : goal.returns
returns c =
    let made : c.in_ok-table.table ≡ record { facts = []; dead = []; room = 512 } = search rules in
    same_rows _ _ (ap (λ (t : Kept Fact). changed_rows wall_of (each fact_row t.facts)) made)
