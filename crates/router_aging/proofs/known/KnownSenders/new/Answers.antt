use Rattle.std.proofs.Common.{ap}
use Rattle.rsvp_base.specs.Sets.{listed}
use Rattle.rsvp_base.specs.Table.{same_rows}
use Rattle.router_aging.proofs.known.KnownSenders.new.Goals as goal

pub returns : goal.returns
returns c = same_rows _ _ (ap listed c.new.ensures)
