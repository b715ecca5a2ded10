use Rattle.std.proofs.Common.{sym, ap, ◌∙◌}
use Rattle.rsvp_base.specs.Table.{keys}
use Rattle.rsvp_base.proofs.Lists.{keys-listed}
use Rattle.path_state.proofs.hops.Hops.as_slice.Goals as goal

pub returns-clause-hops : goal.returns-clause-hops
returns-clause-hops c = c.as_slice.ensures.value ∙ sym (keys-listed c.self.inside.list.items) ∙ ap keys c.self.view_is
