use Rattle.std.proofs.Common.{length, map as each, ap, ◌∙◌, arith}
use Rattle.rsvp_base.specs.Table.{changed, changed_rows, same_rows}
use Rattle.soft_table.specs.Facts.{lives_on}
use Rattle.soft_table.proofs.Maps.{rows_later}
use Rattle.soft_table.proofs.Told.{lived_on}
use Rattle.style_rules.specs.Targets.{wall_keys}
use Rattle.blockade_state.specs.declared.fact.Kept.{Kept}
use Rattle.blockade_state.specs.Blockades.{wall_key, fact_row, wall_of, later}
use Rattle.blockade_state.proofs.Walls.{facts, shorter}
use Rattle.blockade_state.proofs.table.Blockades.advance.Goals as goal

pub invariant_of-self-inside : goal.invariant_of-self-inside
invariant_of-self-inside c =
    let few = shorter (lives_on c.args.ms) c.self.inside.table.facts in (
      c.pull_all.ensures.order.0,
      (
        omega (arith, few, c.self.inside.few, ap length (c.pull_all.ensures.facts ∙ c.advance.ensures.facts)),
        (c.pull_all.ensures.dead, (c.pull_all.ensures.room ∙ c.advance.ensures.room ∙ c.self.inside.room, tt)),
      ),
    )

pub returns : goal.returns
returns c =
    let t = facts c.self.inside.table.facts c.self.inside.facts in
    same_rows _ (changed wall_of (changed (λ k e. lives_on c.args.ms e) t)) (ap (changed_rows wall_of)
    (ap (each fact_row) (c.pull_all.ensures.facts ∙ c.advance.ensures.facts) ∙ rows_later wall_key c.args.ms c.self.inside.table.facts))
    ∙ lived_on (λ (f : Kept). f.wall) wall_keys c.args.ms t ∙ ap (changed (later c.args.ms)) c.self.view_is
