use Rattle.std.proofs.Common.{◌≡◌, Some, None, length, sym, ap, subst, ◌∙◌}
use Rattle.std.specs.FinMap.Entries.{find, put}
use Rattle.std.proofs.lemmas.List.{length-set}
use Rattle.soft_table.specs.declared.cell.Cell.TheVariants.{Live}
use Rattle.soft_table.specs.Facts.{IsInOrder, fact_keys, facts_by}
use Rattle.soft_table.specs.Index.{live_in, facts_in}
use Rattle.soft_table.proofs.Views.{in_order}
use Rattle.soft_table.proofs.Changes.{led, within_slots, fact_led, no_fact_led, not_live_none, Replaces, replaces}
use Rattle.soft_table.proofs.table.SoftTable.replace.Goals as goal
use Rattle.soft_table.proofs.table.SoftTable.replace.Goals.{After-drop-set}

pub returns-in_default-clause-absent : goal.returns-in_default-clause-absent
returns-in_default-clause-absent g c = λ _.
    ap (λ t. find (fact_keys g.F.Fact.rests).cmp (g.F.Fact.key_of c.args.fact) (facts_by g.F.Fact.key_of t.facts)) (sym c.self.view_is)
    ∙ ap (λ k. find (fact_keys g.F.Fact.rests).cmp k (facts_by g.F.Fact.key_of (facts_in c.self.inside.pool c.self.inside.rows.rows))) (sym c.key-rest.ensures)
    ∙ no_fact_led g.F.Fact.rests g.F.Fact.key_of c.self.inside.pool c.self.inside.rows.rows c.self.invariant.0 c.key-rest.result
    (led g.F.Fact.rests g.F.Fact.key_of c.self.inside.pool c.self.inside.rows.rows c.self.invariant.0 c.key-rest.result None (sym c.find.ensures ∙ c.in_default.is))

pub returns-in_default-clause-order : goal.returns-in_default-clause-order
returns-in_default-clause-order g c = subst (λ t. IsInOrder g.F.Fact.rests g.F.Fact.key_of t) c.self.view_is
    (in_order g.F.Fact.rests g.F.Fact.key_of c.self.inside.pool c.self.inside.rows.rows c.self.invariant.0 (length c.self.inside.pool))

pub live-stands-requires : goal.live-stands-requires
live-stands-requires g c =
    within_slots g.F.Fact.rests g.F.Fact.key_of c.self.inside.pool c.self.inside.rows.rows c.self.invariant.0 c.key-rest.result c.in-Some.slot
    (led g.F.Fact.rests g.F.Fact.key_of c.self.inside.pool c.self.inside.rows.rows c.self.invariant.0 c.key-rest.result (Some c.in-Some.slot) (sym c.find.ensures ∙ c.in-Some.is))

pub returns-then-not-stands-clause-absent : goal.returns-then-not-stands-clause-absent
returns-then-not-stands-clause-absent g c = λ _.
    let at = led g.F.Fact.rests g.F.Fact.key_of c.self.inside.pool c.self.inside.rows.rows c.self.invariant.0 c.key-rest.result (Some c.in-Some.slot) (sym c.find.ensures ∙ c.in-Some.is) in
    ap (λ t. find (fact_keys g.F.Fact.rests).cmp (g.F.Fact.key_of c.args.fact) (facts_by g.F.Fact.key_of t.facts)) (sym c.self.view_is)
    ∙ ap (λ k. find (fact_keys g.F.Fact.rests).cmp k (facts_by g.F.Fact.key_of (facts_in c.self.inside.pool c.self.inside.rows.rows))) (sym c.key-rest.ensures)
    ∙ fact_led g.F.Fact.rests g.F.Fact.key_of c.self.inside.pool c.self.inside.rows.rows c.self.invariant.0 c.key-rest.result c.in-Some.slot at
    ∙ not_live_none _ (sym c.live-stands.ensures ∙ c.if-not-stands.true)

pub returns-then-not-stands-clause-order : goal.returns-then-not-stands-clause-order
returns-then-not-stands-clause-order g c = subst (λ t. IsInOrder g.F.Fact.rests g.F.Fact.key_of t) c.self.view_is
    (in_order g.F.Fact.rests g.F.Fact.key_of c.self.inside.pool c.self.inside.rows.rows c.self.invariant.0 (length c.self.inside.pool))

over : (g : _) (c : After-drop-set g) → Replaces g.F.Fact.rests g.F.Fact.key_of c.self.inside.pool c.self.inside.rows.rows c.self.invariant.0 c.key-rest.result
    (c.args.fact, c.set.ensures.0) c.set.new.self
over g c =
    let at = led g.F.Fact.rests g.F.Fact.key_of c.self.inside.pool c.self.inside.rows.rows c.self.invariant.0 c.key-rest.result (Some c.in-Some.slot) (sym c.find.ensures ∙ c.in-Some.is) in
    replaces g.F.Fact.rests g.F.Fact.key_of c.self.inside.pool c.self.inside.rows.rows c.self.invariant.0 c.key-rest.result c.in-Some.slot c.set.result c.args.fact c.set.ensures.0 c.set.new.self at
    c.set.ensures.1 c.set.ensures.2 (sym c.key-rest.ensures)

pub invariant_of-self : goal.invariant_of-self
invariant_of-self g c = ((over g c).index, c.self.invariant.1 ∙ sym (ap length c.set.ensures.2 ∙ length-set c.self.inside.pool c.in-Some.slot (Live c.args.fact c.set.ensures.0)))

pub returns-clause-there : goal.returns-clause-there
returns-clause-there g c = λ _.
    let o = fact_keys g.F.Fact.rests in
    let at = led g.F.Fact.rests g.F.Fact.key_of c.self.inside.pool c.self.inside.rows.rows c.self.invariant.0 c.key-rest.result (Some c.in-Some.slot) (sym c.find.ensures ∙ c.in-Some.is) in
    let found : find o.cmp (g.F.Fact.key_of c.args.fact) (facts_by g.F.Fact.key_of c.args.self.now.facts) ≡ Some (c.set.result, c.set.ensures.0) =
    ap (λ t. find o.cmp (g.F.Fact.key_of c.args.fact) (facts_by g.F.Fact.key_of t.facts)) (sym c.self.view_is)
    ∙ ap (λ k. find o.cmp k (facts_by g.F.Fact.key_of (facts_in c.self.inside.pool c.self.inside.rows.rows))) (sym c.key-rest.ensures)
    ∙ fact_led g.F.Fact.rests g.F.Fact.key_of c.self.inside.pool c.self.inside.rows.rows c.self.invariant.0 c.key-rest.result c.in-Some.slot at ∙ ap live_in c.set.ensures.1 in (
      c.set.result,
      c.set.ensures.0,
      found,
      (over g c).facts ∙ ap (λ k. put o.cmp k (c.args.fact, c.set.ensures.0) (facts_by g.F.Fact.key_of (facts_in c.self.inside.pool c.self.inside.rows.rows))) c.key-rest.ensures
          ∙ ap (λ t. put o.cmp (g.F.Fact.key_of c.args.fact) (c.args.fact, c.set.ensures.0) (facts_by g.F.Fact.key_of t.facts)) c.self.view_is,
    )

pub returns-clause-order : goal.returns-clause-order
returns-clause-order g c = in_order g.F.Fact.rests g.F.Fact.key_of c.set.new.self c.self.inside.rows.rows (over g c).index 0

pub returns-clause-dead : goal.returns-clause-dead
returns-clause-dead g c = (over g c).dead ∙ ap (λ t. t.dead) c.self.view_is

pub returns-clause-room : goal.returns-clause-room
returns-clause-room g c = ap length c.set.ensures.2 ∙ length-set c.self.inside.pool c.in-Some.slot (Live c.args.fact c.set.ensures.0) ∙ ap (λ t. t.room) c.self.view_is
