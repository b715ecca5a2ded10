use Rattle.std.proofs.Common.{◌∙◌, ap, sym}
use Rattle.network_replay.specs.Posting.{Post}
use Rattle.network_replay.proofs.mail.Mail.set_routing.Goals as goal

pub set_routing-requires-clause-nodes : goal.set_routing-requires-clause-nodes
set_routing-requires-clause-nodes c = c.requires.nodes ∙ sym (ap (λ (m : Post). m.net.nodes) c.self.view_is)

pub set_routing-requires-clause-ends : goal.set_routing-requires-clause-ends
set_routing-requires-clause-ends c = c.requires.ends ∙ sym (ap (λ (m : Post). m.net.ends) c.self.view_is)

pub set_routing-requires-clause-links : goal.set_routing-requires-clause-links
set_routing-requires-clause-links c = c.requires.links ∙ sym (ap (λ (m : Post). m.net.links) c.self.view_is)
