use Rattle.std.proofs.Common.{ap, map as each}
use Rattle.rsvp_base.specs.Table.{same_rows}
use Rattle.style_rules.specs.TallyRows.{tally_row}
use Rattle.style_rules.proofs.merger.Merger.new.Goals as goal

pub returns : goal.returns
returns g c = same_rows _ _ (ap (each tally_row) c.new.ensures)
