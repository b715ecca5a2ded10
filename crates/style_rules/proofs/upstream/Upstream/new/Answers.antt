use Rattle.std.proofs.Common.{ap, map as each}
use Rattle.rsvp_base.specs.Table.{same_rows}
use Rattle.style_rules.specs.Ways.{way_of}
use Rattle.style_rules.proofs.upstream.Upstream.new.Goals as goal

pub returns : goal.returns
returns c = same_rows _ _ (ap (each way_of) c.new.ensures)
