use Rattle.std.proofs.Common.{ap, map as each}
use Rattle.rsvp_base.specs.Table.{same_rows, changed_rows}
use Rattle.blockade_state.specs.Blockades.{fact_row, wall_of}
use Rattle.blockade_state.proofs.table.Blockades.clear.Goals as goal

pub returns : goal.returns
returns c = same_rows _ _ (ap (λ fs. changed_rows wall_of (each fact_row fs)) c.clear.ensures.facts)
