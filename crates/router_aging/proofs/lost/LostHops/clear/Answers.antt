use Rattle.std.proofs.Common.{ap, map as each}
use Rattle.rsvp_base.specs.Table.{same_rows}
use Rattle.router_aging.specs.Lost.{lost_row}
use Rattle.router_aging.proofs.lost.LostHops.clear.Goals as goal

pub returns : goal.returns
returns c = same_rows _ _ (ap (each lost_row) c.clear.ensures.items)
