use Rattle.std.proofs.Common.{refl, ap, ◌∙◌, map as each}
use Rattle.rsvp_base.specs.Rows.{table_of}
use Rattle.rsvp_base.specs.Table.{without, same_rows}
use Rattle.path_state.specs.Paths.{path_keys, path_key, fact_row, dead_row}
use Rattle.path_state.proofs.Answered.{same_map}
use Rattle.path_state.proofs.table.PathTable.pull_dead.Goals as goal

pub returns-in_default-clause-unchanged : goal.returns-in_default-clause-unchanged
returns-in_default-clause-unchanged c = λ _.
    let same = c.in_default.ensures.unchanged refl in
    same_map _ _ (same_rows _ (table_of path_keys fact_row c.self.inside.table.facts c.self.inside.facts) (ap (λ t. each fact_row t.facts) same) ∙ ap (λ t. t.facts) c.self.view_is)
    (same_rows _ (table_of path_keys dead_row c.self.inside.table.dead c.self.inside.dead) (ap (λ t. each dead_row t.dead) same) ∙ ap (λ t. t.dead) c.self.view_is)

pub returns-clause-pulled : goal.returns-clause-pulled
returns-clause-pulled c =
    let k = path_key c.in-Some.fact in
    same_map _ _ (same_rows _ (table_of path_keys fact_row c.self.inside.table.facts c.self.inside.facts) (ap (each fact_row) c.in-Some.ensures.facts) ∙ ap (λ t. t.facts) c.self.view_is)
    (same_rows _ (without (table_of path_keys dead_row c.self.inside.table.dead c.self.inside.dead) k) c.in-Some.ensures.pulled ∙ ap (λ t. without t.dead k) c.self.view_is)
