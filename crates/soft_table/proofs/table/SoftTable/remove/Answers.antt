use Rattle.std.proofs.Common.{◌≡◌, Some, None, length, refl, sym, ap, subst, ◌∙◌}
use Rattle.std.specs.Prelude.{not}
use Rattle.std.specs.Option.{option_map}
use Rattle.std.specs.Ordering.{eq_by_cmp}
use Rattle.std.specs.FinMap.Entries.{find, where_key}
use Rattle.std.proofs.lemmas.List.{length-set}
use Rattle.soft_table.specs.declared.cell.Cell.TheVariants.{Free, Live}
use Rattle.soft_table.specs.Facts.{IsInOrder, fact_keys, facts_by}
use Rattle.soft_table.specs.Index.{live_in, due_in}
use Rattle.soft_table.proofs.Views.{in_order}
use Rattle.soft_table.proofs.Changes.{led, within_slots, fact_led, no_fact_led, nothing_gone, not_live_none, Takes, takes}
use Rattle.soft_table.proofs.table.SoftTable.remove.Goals as goal
use Rattle.soft_table.proofs.table.SoftTable.remove.Goals.{After-remove}

pub returns-in_default-clause-was : goal.returns-in_default-clause-was
returns-in_default-clause-was g c =
    let o = fact_keys g.F.Fact.rests in
    let none = no_fact_led g.F.Fact.rests g.F.Fact.key_of c.self.inside.pool c.self.inside.rows.rows c.self.invariant.0 (c.args.session, c.args.rest)
    (led g.F.Fact.rests g.F.Fact.key_of c.self.inside.pool c.self.inside.rows.rows c.self.invariant.0 (c.args.session, c.args.rest) None (sym c.find.ensures ∙ c.in_default.is)) in
    ap (option_map (λ e. e.0)) (sym none ∙ ap (λ t. find o.cmp (c.args.session, c.args.rest) (facts_by g.F.Fact.key_of t.facts)) c.self.view_is)

pub returns-in_default-clause-gone : goal.returns-in_default-clause-gone
returns-in_default-clause-gone g c =
    let o = fact_keys g.F.Fact.rests in
    let none = no_fact_led g.F.Fact.rests g.F.Fact.key_of c.self.inside.pool c.self.inside.rows.rows c.self.invariant.0 (c.args.session, c.args.rest)
    (led g.F.Fact.rests g.F.Fact.key_of c.self.inside.pool c.self.inside.rows.rows c.self.invariant.0 (c.args.session, c.args.rest) None (sym c.find.ensures ∙ c.in_default.is)) in
    subst (λ t. facts_by g.F.Fact.key_of t.facts ≡ where_key o.cmp (λ x. not (eq_by_cmp o.cmp (c.args.session, c.args.rest) x)) (facts_by g.F.Fact.key_of t.facts)) c.self.view_is
    (nothing_gone g.F.Fact.rests g.F.Fact.key_of c.self.inside.pool c.self.inside.rows.rows c.self.invariant.0 (c.args.session, c.args.rest) none)

pub returns-in_default-clause-order : goal.returns-in_default-clause-order
returns-in_default-clause-order g c = subst (λ t. IsInOrder g.F.Fact.rests g.F.Fact.key_of t) c.self.view_is
    (in_order g.F.Fact.rests g.F.Fact.key_of c.self.inside.pool c.self.inside.rows.rows c.self.invariant.0 (length c.self.inside.pool))

pub live-requires : goal.live-requires
live-requires g c =
    within_slots g.F.Fact.rests g.F.Fact.key_of c.self.inside.pool c.self.inside.rows.rows c.self.invariant.0 (c.args.session, c.args.rest) c.in-Some.slot
    (led g.F.Fact.rests g.F.Fact.key_of c.self.inside.pool c.self.inside.rows.rows c.self.invariant.0 (c.args.session, c.args.rest) (Some c.in-Some.slot) (sym c.find.ensures ∙ c.in-Some.is))

pub returns-then-not-live-clause-was : goal.returns-then-not-live-clause-was
returns-then-not-live-clause-was g c =
    let o = fact_keys g.F.Fact.rests in
    let at = led g.F.Fact.rests g.F.Fact.key_of c.self.inside.pool c.self.inside.rows.rows c.self.invariant.0 (c.args.session, c.args.rest) (Some c.in-Some.slot) (sym c.find.ensures ∙ c.in-Some.is) in
    let none = fact_led g.F.Fact.rests g.F.Fact.key_of c.self.inside.pool c.self.inside.rows.rows c.self.invariant.0 (c.args.session, c.args.rest) c.in-Some.slot at
    ∙ not_live_none _ (sym c.live.ensures ∙ c.if-not-live.true) in
    ap (option_map (λ e. e.0)) (sym none ∙ ap (λ t. find o.cmp (c.args.session, c.args.rest) (facts_by g.F.Fact.key_of t.facts)) c.self.view_is)

pub returns-then-not-live-clause-gone : goal.returns-then-not-live-clause-gone
returns-then-not-live-clause-gone g c =
    let o = fact_keys g.F.Fact.rests in
    let at = led g.F.Fact.rests g.F.Fact.key_of c.self.inside.pool c.self.inside.rows.rows c.self.invariant.0 (c.args.session, c.args.rest) (Some c.in-Some.slot) (sym c.find.ensures ∙ c.in-Some.is) in
    let none = fact_led g.F.Fact.rests g.F.Fact.key_of c.self.inside.pool c.self.inside.rows.rows c.self.invariant.0 (c.args.session, c.args.rest) c.in-Some.slot at
    ∙ not_live_none _ (sym c.live.ensures ∙ c.if-not-live.true) in
    subst (λ t. facts_by g.F.Fact.key_of t.facts ≡ where_key o.cmp (λ x. not (eq_by_cmp o.cmp (c.args.session, c.args.rest) x)) (facts_by g.F.Fact.key_of t.facts)) c.self.view_is
    (nothing_gone g.F.Fact.rests g.F.Fact.key_of c.self.inside.pool c.self.inside.rows.rows c.self.invariant.0 (c.args.session, c.args.rest) none)

pub returns-then-not-live-clause-order : goal.returns-then-not-live-clause-order
returns-then-not-live-clause-order g c = subst (λ t. IsInOrder g.F.Fact.rests g.F.Fact.key_of t) c.self.view_is
    (in_order g.F.Fact.rests g.F.Fact.key_of c.self.inside.pool c.self.inside.rows.rows c.self.invariant.0 (length c.self.inside.pool))

pub remove_at-requires : goal.remove_at-requires
remove_at-requires g c = sym c.find.ensures ∙ c.in-Some.is

taken : (g : _) (c : After-remove g) → Takes g.F.Fact.rests g.F.Fact.key_of c.self.inside.pool c.self.inside.rows.rows c.self.invariant.0
    (c.args.session, c.args.rest) c.in-Some.slot c.remove.new.self c.remove_at.new.self.rows
taken g c =
    let at = led g.F.Fact.rests g.F.Fact.key_of c.self.inside.pool c.self.inside.rows.rows c.self.invariant.0 (c.args.session, c.args.rest) (Some c.in-Some.slot) (sym c.find.ensures ∙ c.in-Some.is) in
    takes g.F.Fact.rests g.F.Fact.key_of c.self.inside.pool c.self.inside.rows.rows c.self.invariant.0 (c.args.session, c.args.rest) c.in-Some.slot
    (Live c.remove.result c.remove.ensures.was.0) c.remove.new.self c.remove_at.new.self.rows at c.remove.ensures.was.1 refl c.remove.ensures.gone (ap (λ t. t.rows) c.remove_at.ensures)

pub invariant_of-self : goal.invariant_of-self
invariant_of-self g c = ((taken g c).index, ap (λ t. t.room) c.remove_at.ensures ∙ c.self.invariant.1 ∙ sym (ap length c.remove.ensures.gone ∙ length-set c.self.inside.pool c.in-Some.slot Free))

pub returns-clause-was : goal.returns-clause-was
returns-clause-was g c =
    let o = fact_keys g.F.Fact.rests in
    let at = led g.F.Fact.rests g.F.Fact.key_of c.self.inside.pool c.self.inside.rows.rows c.self.invariant.0 (c.args.session, c.args.rest) (Some c.in-Some.slot) (sym c.find.ensures ∙ c.in-Some.is) in
    let found = fact_led g.F.Fact.rests g.F.Fact.key_of c.self.inside.pool c.self.inside.rows.rows c.self.invariant.0 (c.args.session, c.args.rest) c.in-Some.slot at
    ∙ ap live_in c.remove.ensures.was.1 in
    ap (option_map (λ e. e.0)) (sym found ∙ ap (λ t. find o.cmp (c.args.session, c.args.rest) (facts_by g.F.Fact.key_of t.facts)) c.self.view_is)

pub returns-clause-gone : goal.returns-clause-gone
returns-clause-gone g c =
    let o = fact_keys g.F.Fact.rests in
    (taken g c).facts ∙ ap (λ t. where_key o.cmp (λ x. not (eq_by_cmp o.cmp (c.args.session, c.args.rest) x)) (facts_by g.F.Fact.key_of t.facts)) c.self.view_is

pub returns-clause-order : goal.returns-clause-order
returns-clause-order g c = in_order g.F.Fact.rests g.F.Fact.key_of c.remove.new.self c.remove_at.new.self.rows (taken g c).index 0

pub returns-clause-dead : goal.returns-clause-dead
returns-clause-dead g c = (taken g c).no_dead (ap due_in c.remove.ensures.was.1) ∙ ap (λ t. t.dead) c.self.view_is
