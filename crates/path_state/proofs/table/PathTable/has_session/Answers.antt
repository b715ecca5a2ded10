use Rattle.std.proofs.Common.{ℕ, sym, ap, ◌∙◌}
use Rattle.std.specs.Prelude.{slice_get, nat_lt}
use Rattle.rsvp_base.specs.Orders.{sessions, senders}
use Rattle.rsvp_base.specs.Rows.{table_of}
use Rattle.rsvp_base.specs.Table.{Table, size}
use Rattle.rsvp_base.specs.Under.{under}
use Rattle.soft_table.proofs.Told.{some_copied}
use Rattle.path_state.specs.declared.fact.PathFact.{PathFact}
use Rattle.path_state.specs.Paths.{PathMap, path_keys, fact_row}
use Rattle.path_state.proofs.Answered.{first_there}
use Rattle.path_state.proofs.Walked.{full_many}
use Rattle.path_state.proofs.table.PathTable.has_session.Goals as goal

pub returns : goal.returns
returns c =
    let m : Table path_keys (PathFact × ℕ) = table_of path_keys fact_row c.self.inside.table.facts c.self.inside.facts in
    let us = (under sessions senders m c.args.session).rows in
    c.is_some.ensures ∙ sym (some_copied (λ e. e.1.0) c.at.result (slice_get us 0) c.at.ensures) ∙ first_there us ∙ full_many us
    ∙ ap (λ (t : PathMap). nat_lt 0 (size (under sessions senders t.facts c.args.session))) c.self.view_is
