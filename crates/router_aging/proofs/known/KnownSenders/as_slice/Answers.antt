use Rattle.std.proofs.Common.{sym, ap, ◌∙◌}
use Rattle.rsvp_base.specs.Table.{keys}
use Rattle.rsvp_base.proofs.Lists.{keys-listed}
use Rattle.router_aging.proofs.known.KnownSenders.as_slice.Goals as goal

pub returns-clause-senders : goal.returns-clause-senders
returns-clause-senders c = c.as_slice.ensures.value ∙ sym (keys-listed c.self.inside.list.items) ∙ ap keys c.self.view_is
