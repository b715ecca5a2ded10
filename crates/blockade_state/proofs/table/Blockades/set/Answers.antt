use Rattle.std.proofs.Common.{◌<◌, map as each, ap, subst, ◌∙◌}
use Rattle.std.specs.Prelude.{IsErr, ◌↔◌}
use Rattle.rsvp_base.specs.Table.{changed, changed_rows, put_in, same_rows, size}
use Rattle.style_rules.specs.Targets.{WallKey}
use Rattle.soft_table.specs.Facts.{Kept}
use Rattle.blockade_state.specs.declared.fact.Kept.{Kept as Fact}
use Rattle.blockade_state.specs.Blockades.{WallMap, fact_row, wall_of}
use Rattle.blockade_state.proofs.Walls.{facts, more, refused, still_few, on_ok, on_err}
use Rattle.blockade_state.proofs.table.Blockades.set.Goals as goal

pub invariant_of-self-inside : goal.invariant_of-self-inside
invariant_of-self-inside c =
    let fact : Fact = record { session = c.args.session; target = c.args.target; wall = c.args.wall } in
    let few = still_few c.self.inside.table.facts c.self.inside.facts c.put.result (c.args.session, c.args.target)
    (fact, c.args.left) c.self.inside.table.room c.put.new.self.facts c.self.inside.room c.self.inside.few c.put.ensures.full c.put.ensures.ok
    (on_err c.put.result (ap (λ (t : Kept Fact). t.facts)) c.put.ensures.err) in
    (c.put.ensures.order.0, (few, (c.put.ensures.dead ∙ c.self.inside.pulled, (c.put.ensures.room ∙ c.self.inside.room, tt))))

pub returns-clause-ok : goal.returns-clause-ok
returns-clause-ok c =
    let fact : Fact = record { session = c.args.session; target = c.args.target; wall = c.args.wall } in
    let k : WallKey = (c.args.session, c.args.target) in
    on_ok c.put.result (λ put. same_rows _ (changed wall_of (put_in (facts c.self.inside.table.facts c.self.inside.facts) k (fact, c.args.left))) (ap (changed_rows wall_of) put)
    ∙ more c.self.inside.table.facts c.self.inside.facts k (fact, c.args.left) ∙ ap (λ (m : WallMap). put_in m k (c.args.wall, c.args.left)) c.self.view_is) c.put.ensures.ok

pub returns-clause-full : goal.returns-clause-full
returns-clause-full c =
    let fact : Fact = record { session = c.args.session; target = c.args.target; wall = c.args.wall } in
    let k : WallKey = (c.args.session, c.args.target) in
    subst (λ (m : WallMap). IsErr c.put.result ↔ (512 < size (put_in m k (c.args.wall, c.args.left)))) c.self.view_is
    (refused c.self.inside.table.facts c.self.inside.facts c.put.result k (fact, c.args.left) c.self.inside.table.room c.self.inside.room c.self.inside.few c.put.ensures.full)

pub returns-clause-err : goal.returns-clause-err
returns-clause-err c = on_err c.put.result (λ same. same_rows _ (changed wall_of (facts c.self.inside.table.facts c.self.inside.facts))
    (ap (λ (t : Kept Fact). changed_rows wall_of (each fact_row t.facts)) same) ∙ c.self.view_is) c.put.ensures.err
