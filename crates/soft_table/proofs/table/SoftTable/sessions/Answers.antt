use Rattle.std.proofs.Common.{ap, ◌∙◌}
use Rattle.rsvp_base.specs.Table.{size}
use Rattle.soft_table.specs.Facts.{sessions_in}
use Rattle.soft_table.proofs.Walks.{are_slots, sessions_counted}
use Rattle.soft_table.proofs.table.SoftTable.sessions.Goals as goal

pub count_sessions-requires : goal.count_sessions-requires
count_sessions-requires g c = are_slots g.F.Fact.rests g.F.Fact.key_of c.self.inside.pool c.self.inside.rows.rows c.self.invariant.0

pub returns : goal.returns
returns g c = c.count_sessions.ensures ∙ sessions_counted g.F.Fact.rests g.F.Fact.key_of c.self.inside.pool c.self.inside.rows.rows c.self.invariant.0
    ∙ ap (λ t. size (sessions_in g.F.Fact.key_of t.facts)) c.self.view_is
