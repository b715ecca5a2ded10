use Rattle.std.proofs.Common.{◌++◌, ◌∷◌, [], cond, sym, ap, ◌∙◌, arith, length, map as each}
use Rattle.std.proofs.lemmas.List.{length-append, map-append}
use Rattle.router_rounds.specs.Nears.{hops_before, near_row}
use Rattle.router_rounds.specs.declared.nears.Near.{Near}
use Rattle.router_rounds.proofs.nears.note_one.Goals as goal

pub returns-then-not-is_noted-clause-rows : goal.returns-then-not-is_noted-clause-rows
returns-then-not-is_noted-clause-rows c =
    let before = each near_row c.args.rows.now.items in
    sym (ap (λ b. cond b (before ++ (c.args.session, hops_before c.args.paths.now.facts c.args.lost.now c.args.session) ∷ []) before) (sym c.is_noted.ensures ∙ c.if-not-is_noted.true))

pub returns-clause-rows : goal.returns-clause-rows
returns-clause-rows c =
    let before = each near_row c.args.rows.now.items in
    ap (each near_row) c.add.ensures.rows ∙ map-append near_row c.args.rows.now.items _ ∙ (λ i. before ++ (c.args.session, c.hops_before-hops.ensures i) ∷ [])
    ∙ sym (ap (λ b. cond b (before ++ (c.args.session, hops_before c.args.paths.now.facts c.args.lost.now c.args.session) ∷ []) before) (sym c.is_noted.ensures ∙ c.if-not-is_noted.false))

pub returns-clause-few : goal.returns-clause-few
returns-clause-few c = omega (arith, ap length c.add.ensures.rows, length-append {A = Near})
