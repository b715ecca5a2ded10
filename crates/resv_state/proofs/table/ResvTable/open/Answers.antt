use Rattle.std.proofs.Common.{◌≡◌, [], map as each, ap, rules}
use Rattle.rsvp_base.specs.Table.{changed_rows, same_rows}
use Rattle.soft_table.specs.Facts.{Kept}
use Rattle.resv_state.specs.declared.fact.Held.{Held}
use Rattle.resv_state.specs.Resvs.{held_row, dead_row, fact_of, dead_of}
use Rattle.resv_state.proofs.Facts.{same_map}
use Rattle.resv_state.proofs.table.ResvTable.open.Goals as goal

pub returns : goal.returns
returns g c =
    let made : c.in_ok-table.table ≡ record { facts = []; dead = []; room = 1024 } = search rules in
    same_map _ _ (same_rows _ _ (ap (λ (t : Kept Held). changed_rows fact_of (each held_row t.facts)) made)) (same_rows _ _ (ap (λ (t : Kept Held). changed_rows dead_of (each dead_row t.dead)) made))
