use Rattle.std.proofs.Common.{map as each, ap, ◌∙◌}
use Rattle.rsvp_base.specs.Orders.{sessions, senders}
use Rattle.rsvp_base.specs.Table.{keys}
use Rattle.rsvp_base.specs.Under.{under}
use Rattle.path_state.specs.declared.fact.PathFact.{PathFact}
use Rattle.path_state.specs.Paths.{PathMap}
use Rattle.path_state.proofs.Walked.{named}
use Rattle.path_state.proofs.table.PathTable.of_session.Goals as goal

pub returns-clause-facts : goal.returns-clause-facts
returns-clause-facts c = c.of_session.ensures ∙ ap (λ (m : PathMap). each (λ e. e.1.0) (under sessions senders m.facts c.args.session).rows) c.self.view_is

pub returns-clause-senders : goal.returns-clause-senders
returns-clause-senders c = ap (each (λ (f : PathFact). f.sender)) c.of_session.ensures ∙ named c.args.session c.self.inside.table.facts
    ∙ ap (λ (m : PathMap). keys (under sessions senders m.facts c.args.session)) c.self.view_is
