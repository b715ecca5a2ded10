use Rattle.std.proofs.Common.{map as each, ap}
use Rattle.rsvp_base.specs.Table.{same_rows}
use Rattle.blockade_state.specs.Touched.{mark_row}
use Rattle.blockade_state.proofs.touched.Touched.new.Goals as goal

pub returns : goal.returns
returns c = same_rows _ _ (ap (each mark_row) c.new.ensures)
