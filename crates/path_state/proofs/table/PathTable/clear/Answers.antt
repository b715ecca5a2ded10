use Rattle.std.proofs.Common.{ap, map as each}
use Rattle.rsvp_base.specs.Table.{same_rows}
use Rattle.path_state.specs.Paths.{fact_row, dead_row}
use Rattle.path_state.proofs.Answered.{same_map}
use Rattle.path_state.proofs.table.PathTable.clear.Goals as goal

pub returns : goal.returns
returns c = same_map _ _ (same_rows _ _ (ap (each fact_row) c.clear.ensures.facts)) (same_rows _ _ (ap (each dead_row) c.clear.ensures.dead))
