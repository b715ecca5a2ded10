use Rattle.std.proofs.Common.{sym, ap, ◌∙◌}
use Rattle.rsvp_base.specs.Table.{keys}
use Rattle.rsvp_base.proofs.Lists.{keys-listed}
use Rattle.resv_sends.proofs.units.Units.as_slice.Goals as goal

pub returns-clause-units : goal.returns-clause-units
returns-clause-units c = c.as_slice.ensures.value ∙ sym (keys-listed c.self.inside.list.items) ∙ ap keys c.self.view_is
