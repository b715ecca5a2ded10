use Rattle.std.proofs.Common.{◌≡◌, [], ap, rules, map as each}
use Rattle.rsvp_base.specs.Table.{same_rows, changed_rows}
use Rattle.soft_table.specs.Facts.{Kept}
use Rattle.sent_state.specs.declared.lane.Sent.{Sent}
use Rattle.sent_state.specs.Lanes.{lane_row, parts_of, sent_row}
use Rattle.sent_state.proofs.table.LaneTable.open.Goals as goal

pub returns : goal.returns
returns c =
    let made : c.in_ok-table.table ≡ record { facts = []; dead = []; room = 1536 } = search rules in
    same_rows _ _ (ap (λ (t : Kept Sent). each lane_row (changed_rows parts_of (each sent_row t.facts))) made)
