use Rattle.std.proofs.Common.{ap, map as each}
use Rattle.rsvp_base.specs.Table.{same_rows}
use Rattle.style_rules.proofs.parts.Parts.clear.Goals as goal

pub returns : goal.returns
returns c = same_rows _ _ (ap (each (λ e. e)) c.clear.ensures)
