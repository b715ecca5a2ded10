use Rattle.std.proofs.Common.{ap, ◌∙◌, map as each}
use Rattle.rsvp_base.specs.Rows.{table_of}
use Rattle.rsvp_base.specs.Table.{without, same_rows}
use Rattle.path_state.specs.Paths.{path_keys, fact_row, dead_row}
use Rattle.path_state.proofs.Answered.{same_map, within_without}
use Rattle.path_state.proofs.table.PathTable.tear.Goals as goal

pub invariant_of-self-inside : goal.invariant_of-self-inside
invariant_of-self-inside c = (
  c.remove.ensures.order.0,
  (
    c.remove.ensures.order.1,
    (
      c.remove.ensures.room ∙ c.self.inside.room,
      (
        within_without (c.args.session, c.args.sender)
            (table_of path_keys fact_row c.self.inside.table.facts c.self.inside.facts) c.remove.new.self.facts _ c.self.inside.within c.remove.ensures.gone,
        tt,
      ),
    ),
  ),
)

pub returns-clause-gone : goal.returns-clause-gone
returns-clause-gone c =
    same_map _ _
    (same_rows _ (without (table_of path_keys fact_row c.self.inside.table.facts c.self.inside.facts) (c.args.session, c.args.sender)) c.remove.ensures.gone
    ∙ ap (λ t. without t.facts (c.args.session, c.args.sender)) c.self.view_is)
    (same_rows _ (table_of path_keys dead_row c.self.inside.table.dead c.self.inside.dead) (ap (each dead_row) c.remove.ensures.dead) ∙ ap (λ t. t.dead) c.self.view_is)
