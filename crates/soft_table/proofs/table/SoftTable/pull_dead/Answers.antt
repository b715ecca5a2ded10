use Rattle.std.proofs.Common.{◌≡◌, length, Some, refl, sym, ap, subst, ◌∙◌}
use Rattle.std.specs.Prelude.{slice_get, not}
use Rattle.std.specs.Ordering.{eq_by_cmp}
use Rattle.std.specs.FinMap.Entries.{find, where_key}
use Rattle.std.proofs.lemmas.List.{length-set}
use Rattle.rsvp_base.specs.Table.{get}
use Rattle.soft_table.specs.declared.cell.Cell.TheVariants.{Free, Due}
use Rattle.rsvp_base.proofs.Tables.{then_do}
use Rattle.soft_table.specs.Facts.{IsInOrder, fact_keys, dead_by}
use Rattle.soft_table.specs.Index.{value_in, facts_in, dead_in, live_in, due_in, IsIndex}
use Rattle.soft_table.proofs.Views.{in_order, none_dead}
use Rattle.soft_table.proofs.Changes.{found_dead, Takes, takes}
use Rattle.soft_table.proofs.table.SoftTable.pull_dead.Goals as goal
use Rattle.soft_table.proofs.table.SoftTable.pull_dead.Goals.{After-remove_at}

pub returns-in_default-clause-order : goal.returns-in_default-clause-order
returns-in_default-clause-order g c =
    subst (λ cells. IsInOrder g.F.Fact.rests g.F.Fact.key_of (record { facts = facts_in cells c.self.inside.rows.rows; dead = dead_in cells c.self.inside.rows.rows; room = length cells }))
    (sym (c.in_default.ensures.unchanged refl)) (in_order g.F.Fact.rests g.F.Fact.key_of c.self.inside.pool c.self.inside.rows.rows c.self.invariant.0 (length c.self.inside.pool))

pub returns-in_default-clause-none : goal.returns-in_default-clause-none
returns-in_default-clause-none g c = λ _. ap (λ t. t.dead) (sym c.self.view_is) ∙ none_dead g.F.Fact.rests g.F.Fact.key_of c.self.inside.pool c.self.inside.rows.rows c.self.invariant.0
    (c.in_default.ensures.none refl)

pub remove_at-requires : goal.remove_at-requires
remove_at-requires g c =
    let ix = c.self.invariant.0 in
    ap (find (fact_keys g.F.Fact.rests).cmp c.key-rest.result) ix.is ∙ ap (get ix.slots) c.key-rest.ensures ∙ ix.linked.finds c.in-Some.slot.0 c.in-Some.fact (ap value_in c.in-Some.ensures.due)

taken : (g : _) (c : After-remove_at g)
    → Takes g.F.Fact.rests g.F.Fact.key_of c.self.inside.pool c.self.inside.rows.rows c.self.invariant.0 c.key-rest.result c.in-Some.slot.0 c.pull_due.new.self c.remove_at.new.self.rows
taken g c =
    let slots = c.self.invariant.0.slots in
    let led_to : get slots c.key-rest.result ≡ Some c.in-Some.slot.0 = ap (get slots) c.key-rest.ensures
    ∙ c.self.invariant.0.linked.finds c.in-Some.slot.0 c.in-Some.fact (ap value_in c.in-Some.ensures.due) in
    takes g.F.Fact.rests g.F.Fact.key_of c.self.inside.pool c.self.inside.rows.rows c.self.invariant.0 c.key-rest.result c.in-Some.slot.0
    (Due c.in-Some.fact) c.pull_due.new.self c.remove_at.new.self.rows led_to c.in-Some.ensures.due refl c.in-Some.ensures.freed (ap (λ t. t.rows) c.remove_at.ensures)

pub invariant_of-self-2 : goal.invariant_of-self-2
invariant_of-self-2 g c = ((taken g c).index, ap (λ t. t.room) c.remove_at.ensures ∙ c.self.invariant.1 ∙ sym (ap length c.in-Some.ensures.freed ∙ length-set c.self.inside.pool c.in-Some.slot.0 Free))

pub returns-clause-dead : goal.returns-clause-dead
returns-clause-dead g c =
    let o = fact_keys g.F.Fact.rests in
    let slots = c.self.invariant.0.slots in
    let led_to : get slots (g.F.Fact.key_of c.in-Some.fact) ≡ Some c.in-Some.slot.0 = c.self.invariant.0.linked.finds c.in-Some.slot.0 c.in-Some.fact (ap value_in c.in-Some.ensures.due) in
    ap (λ t. find o.cmp (g.F.Fact.key_of c.in-Some.fact) (dead_by g.F.Fact.key_of t.dead)) (sym c.self.view_is)
    ∙ found_dead g.F.Fact.rests g.F.Fact.key_of c.self.inside.pool c.self.inside.rows.rows c.self.invariant.0 (g.F.Fact.key_of c.in-Some.fact)
    ∙ ap (λ w. then_do w (λ s. due_in (slice_get c.self.inside.pool s))) led_to ∙ ap due_in c.in-Some.ensures.due

pub returns-clause-pulled : goal.returns-clause-pulled
returns-clause-pulled g c =
    let o = fact_keys g.F.Fact.rests in
    (taken g c).dead ∙ ap (λ k. where_key o.cmp (λ x. not (eq_by_cmp o.cmp k x)) (dead_by g.F.Fact.key_of (dead_in c.self.inside.pool c.self.inside.rows.rows))) c.key-rest.ensures
    ∙ ap (λ t. where_key o.cmp (λ x. not (eq_by_cmp o.cmp (g.F.Fact.key_of c.in-Some.fact) x)) (dead_by g.F.Fact.key_of t.dead)) c.self.view_is

pub returns-clause-order : goal.returns-clause-order
returns-clause-order g c = in_order g.F.Fact.rests g.F.Fact.key_of c.pull_due.new.self c.remove_at.new.self.rows (taken g c).index 0

pub returns-clause-facts : goal.returns-clause-facts
returns-clause-facts g c = (taken g c).no_fact (ap live_in c.in-Some.ensures.due) ∙ ap (λ t. t.facts) c.self.view_is

pub invariant_of-self : goal.invariant_of-self
invariant_of-self g c =
    let same = c.in_default.ensures.unchanged refl in
    (subst (λ cells. IsIndex g.F.Fact.rests g.F.Fact.key_of cells c.self.inside.rows.rows) (sym same) c.self.invariant.0, c.self.invariant.1 ∙ sym (ap length same))
