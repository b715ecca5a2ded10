use Rattle.std.proofs.Common.{sym, ap, ◌∙◌, arith}
use Rattle.std.specs.Option.{option_map, option_copied}
use Rattle.rsvp_base.specs.Table.{get, size}
use Rattle.style_rules.specs.Targets.{WallKey, wall_keys}
use Rattle.soft_table.proofs.Valued.{get-valued}
use Rattle.blockade_state.specs.declared.fact.Kept.{Kept}
use Rattle.blockade_state.proofs.Walls.{said, facts, many}
use Rattle.soft_table.proofs.Told.{looked_up}
use Rattle.blockade_state.proofs.table.Blockades.of.Goals as goal

pub returns-in-Some-clause-wall : goal.returns-in-Some-clause-wall
returns-in-Some-clause-wall c =
    let k : WallKey = (c.args.session, c.args.target) in
    ap (λ r. option_map (λ f. f.wall) (option_copied r)) (sym c.in-Some.is) ∙ looked_up (λ (f : Kept). f.wall) _ _ c.find.ensures
    ∙ ap (option_map (λ e. e.0)) (sym (get-valued wall_keys said (facts c.self.inside.table.facts c.self.inside.facts) k)) ∙ ap (λ m. option_map (λ e. e.0) (get m k)) c.self.view_is

pub returns-in-None-clause-wall : goal.returns-in-None-clause-wall
returns-in-None-clause-wall c =
    let k : WallKey = (c.args.session, c.args.target) in
    ap (λ r. option_map (λ f. f.wall) (option_copied r)) (sym c.in-None.is) ∙ looked_up (λ (f : Kept). f.wall) _ _ c.find.ensures
    ∙ ap (option_map (λ e. e.0)) (sym (get-valued wall_keys said (facts c.self.inside.table.facts c.self.inside.facts) k)) ∙ ap (λ m. option_map (λ e. e.0) (get m k)) c.self.view_is

pub returns-in-Some-clause-few : goal.returns-in-Some-clause-few
returns-in-Some-clause-few c = omega (arith, many c.self.inside.table.facts c.self.inside.facts, c.self.inside.few, ap size c.self.view_is)

pub returns-in-None-clause-few : goal.returns-in-None-clause-few
returns-in-None-clause-few c = omega (arith, many c.self.inside.table.facts c.self.inside.facts, c.self.inside.few, ap size c.self.view_is)
