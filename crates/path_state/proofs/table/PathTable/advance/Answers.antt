use Rattle.std.proofs.Common.{ap, ◌∙◌, map as each}
use Rattle.rsvp_base.specs.Rows.{table_of}
use Rattle.rsvp_base.specs.Table.{changed, same_rows}
use Rattle.path_state.specs.Paths.{path_keys, fact_row, dead_row, later, dead_after}
use Rattle.path_state.proofs.Answered.{nil_of, rows_later, rows_dead, within_later}
use Rattle.path_state.proofs.table.PathTable.advance.Goals as goal

pub advance-requires : goal.advance-requires
advance-requires c = nil_of dead_row c.self.inside.table.dead (ap (λ t. t.dead.rows) c.self.view_is ∙ c.requires)

pub invariant_of-self-inside : goal.invariant_of-self-inside
invariant_of-self-inside c =
    let after = ap (each fact_row) c.advance.ensures.facts ∙ rows_later c.args.ms c.self.inside.table.facts in (
      c.advance.ensures.order.0,
      (
        c.advance.ensures.order.1,
        (
          c.advance.ensures.room ∙ c.self.inside.room,
          (within_later c.args.ms (table_of path_keys fact_row c.self.inside.table.facts c.self.inside.facts) c.advance.new.self.facts _ c.self.inside.within after, tt),
        ),
      ),
    )

pub returns-clause-facts : goal.returns-clause-facts
returns-clause-facts c = same_rows _ (changed (later c.args.ms) (table_of path_keys fact_row c.self.inside.table.facts c.self.inside.facts))
    (ap (each fact_row) c.advance.ensures.facts ∙ rows_later c.args.ms c.self.inside.table.facts) ∙ ap (λ t. changed (later c.args.ms) t.facts) c.self.view_is

pub returns-clause-dead : goal.returns-clause-dead
returns-clause-dead c = same_rows _ (changed (dead_after c.args.ms) (table_of path_keys fact_row c.self.inside.table.facts c.self.inside.facts))
    (ap (each dead_row) c.advance.ensures.dead ∙ rows_dead c.args.ms c.self.inside.table.facts) ∙ ap (λ t. changed (dead_after c.args.ms) t.facts) c.self.view_is
