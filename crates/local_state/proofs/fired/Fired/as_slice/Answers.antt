use Rattle.std.proofs.Common.{sym, ap, ◌∙◌}
use Rattle.rsvp_base.specs.Table.{keys}
use Rattle.rsvp_base.proofs.Lists.{keys-listed}
use Rattle.local_state.proofs.fired.Fired.as_slice.Goals as goal

pub returns-clause-sessions : goal.returns-clause-sessions
returns-clause-sessions c = c.as_slice.ensures.value ∙ sym (keys-listed c.self.inside.list.items) ∙ ap keys c.self.view_is
