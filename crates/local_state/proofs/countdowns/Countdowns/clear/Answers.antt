use Rattle.std.proofs.Common.{ap, map as each}
use Rattle.rsvp_base.specs.Table.{same_rows}
use Rattle.local_state.specs.Rows.{count_row}
use Rattle.local_state.proofs.countdowns.Countdowns.clear.Goals as goal

pub returns : goal.returns
returns c = same_rows _ _ (ap (each count_row) c.clear.ensures.items)
