use Rattle.std.proofs.Common.{ap, map as each}
use Rattle.rsvp_base.specs.Table.{same_rows, changed_rows}
use Rattle.sent_state.specs.Lanes.{lane_row, parts_of, sent_row}
use Rattle.sent_state.proofs.table.LaneTable.clear.Goals as goal

pub returns : goal.returns
returns c = same_rows _ _ (ap (λ fs. each lane_row (changed_rows parts_of (each sent_row fs))) c.clear.ensures.facts)
