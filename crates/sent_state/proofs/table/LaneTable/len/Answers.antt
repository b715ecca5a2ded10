use Rattle.std.proofs.Common.{sym, ap, ◌∙◌, arith}
use Rattle.rsvp_base.specs.Table.{size}
use Rattle.sent_state.proofs.Told.{many}
use Rattle.sent_state.proofs.table.LaneTable.len.Goals as goal

pub returns-clause-size : goal.returns-clause-size
returns-clause-size c = c.len.ensures ∙ sym (many c.self.inside.table.facts c.self.inside.facts) ∙ ap size c.self.view_is

pub returns-clause-few : goal.returns-clause-few
returns-clause-few c = omega (arith, c.len.ensures, c.self.inside.few)
