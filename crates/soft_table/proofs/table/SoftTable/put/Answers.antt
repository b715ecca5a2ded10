use Rattle.std.proofs.Common.{◌≡◌, [], length, Some, None, refl, sym, ap, subst, ◌∙◌, arith}
use Rattle.std.specs.FinMap.Entries.{find, put}
use Rattle.std.proofs.lemmas.List.{length-set}
use Rattle.soft_table.specs.declared.cell.Cell.TheVariants.{Free, Live}
use Rattle.soft_table.proofs.PoolSlots.{within}
use Rattle.soft_table.specs.Facts.{IsInOrder, fact_keys, facts_by}
use Rattle.soft_table.specs.Index.{facts_in, dead_in, live_in}
use Rattle.soft_table.proofs.Slots.{used_all, used_some}
use Rattle.soft_table.proofs.Views.{in_order, all_counted, count_rows}
use Rattle.soft_table.proofs.Changes.{led, not_used, within_slots, fact_led, no_fact_led, live_led, Puts, puts_over, puts_new, set_over, live_again}
use Rattle.soft_table.proofs.table.SoftTable.put.Goals as goal
use Rattle.soft_table.proofs.table.SoftTable.put.Goals.{After-renew, After-insert_at}

pub set-requires : goal.set-requires
set-requires g c =
    let none : dead_in c.self.inside.pool c.self.inside.rows.rows ≡ [] = ap (λ t. t.dead) c.self.view_is ∙ c.requires.pulled in
    live_led g.F.Fact.rests g.F.Fact.key_of c.self.inside.pool c.self.inside.rows.rows c.self.invariant.0 c.key-rest.result c.in-Ok.slot
    (led g.F.Fact.rests g.F.Fact.key_of c.self.inside.pool c.self.inside.rows.rows c.self.invariant.0 c.key-rest.result (Some c.in-Ok.slot) c.in-Ok.ensures.there) none

pub renew-requires-clause-live : goal.renew-requires-clause-live
renew-requires-clause-live g c =
    let at = led g.F.Fact.rests g.F.Fact.key_of c.self.inside.pool c.self.inside.rows.rows c.self.invariant.0 c.key-rest.result (Some c.in-Ok.slot) c.in-Ok.ensures.there in
    live_again c.self.inside.pool c.set.new.self c.in-Ok.slot c.set.ensures.0 c.args.fact
    (within_slots g.F.Fact.rests g.F.Fact.key_of c.self.inside.pool c.self.inside.rows.rows c.self.invariant.0 c.key-rest.result c.in-Ok.slot at) c.set.ensures.2

-- the fact of a key that was there
over : (g : _) (c : After-renew g) → Puts g.F.Fact.rests g.F.Fact.key_of c.self.inside.pool c.self.inside.rows.rows c.self.invariant.0 c.key-rest.result
    (c.args.fact, c.args.left) c.renew.new.self c.self.inside.rows.rows
over g c =
    let t = c.in-Ok.slot in
    let none : dead_in c.self.inside.pool c.self.inside.rows.rows ≡ [] = ap (λ t. t.dead) c.self.view_is ∙ c.requires.pulled in
    let at = led g.F.Fact.rests g.F.Fact.key_of c.self.inside.pool c.self.inside.rows.rows c.self.invariant.0 c.key-rest.result (Some c.in-Ok.slot) c.in-Ok.ensures.there in
    let cells = set_over c.self.inside.pool c.set.new.self c.renew.new.self t c.set.ensures.0 c.args.fact c.renew.ensures.0 c.renew.ensures.1 c.args.left
    (within_slots g.F.Fact.rests g.F.Fact.key_of c.self.inside.pool c.self.inside.rows.rows c.self.invariant.0 c.key-rest.result t at) c.set.ensures.2 c.renew.ensures.2 c.renew.ensures.3 in
    puts_over g.F.Fact.rests g.F.Fact.key_of c.self.inside.pool c.self.inside.rows.rows c.self.invariant.0 c.key-rest.result t c.set.result c.args.fact c.set.ensures.0 c.args.left c.renew.new.self at
    none c.set.ensures.1 cells (sym c.key-rest.ensures)

room_over : (g : _) (c : After-renew g) → length c.renew.new.self ≡ length c.self.inside.pool
room_over g c =
    let t = c.in-Ok.slot in
    ap length c.renew.ensures.3 ∙ length-set c.set.new.self t _ ∙ ap length c.set.ensures.2 ∙ length-set c.self.inside.pool t _

pub invariant_of-self : goal.invariant_of-self
invariant_of-self g c = ((over g c).index, c.self.invariant.1 ∙ sym (room_over g c))

pub returns-in-Ok-clause-ok : goal.returns-in-Ok-clause-ok
returns-in-Ok-clause-ok g c =
    let o = fact_keys g.F.Fact.rests in
    (over g c).facts ∙ ap (λ k. put o.cmp k (c.args.fact, c.args.left) (facts_by g.F.Fact.key_of (facts_in c.self.inside.pool c.self.inside.rows.rows))) c.key-rest.ensures
    ∙ ap (λ t. put o.cmp (g.F.Fact.key_of c.args.fact) (c.args.fact, c.args.left) (facts_by g.F.Fact.key_of t.facts)) c.self.view_is

pub returns-in-Ok-clause-order : goal.returns-in-Ok-clause-order
returns-in-Ok-clause-order g c = in_order g.F.Fact.rests g.F.Fact.key_of c.renew.new.self c.self.inside.rows.rows (over g c).index 0

pub returns-in-Ok-clause-dead : goal.returns-in-Ok-clause-dead
returns-in-Ok-clause-dead g c = (over g c).dead ∙ sym c.requires.pulled

pub returns-in-Ok-clause-full : goal.returns-in-Ok-clause-full
returns-in-Ok-clause-full g c =
    let o = fact_keys g.F.Fact.rests in
    let at = led g.F.Fact.rests g.F.Fact.key_of c.self.inside.pool c.self.inside.rows.rows c.self.invariant.0 c.key-rest.result (Some c.in-Ok.slot) c.in-Ok.ensures.there in
    let found : find o.cmp (g.F.Fact.key_of c.args.fact) (facts_by g.F.Fact.key_of c.args.self.now.facts) ≡ Some (c.set.result, c.set.ensures.0) =
    ap (λ t. find o.cmp (g.F.Fact.key_of c.args.fact) (facts_by g.F.Fact.key_of t.facts)) (sym c.self.view_is)
    ∙ ap (λ k. find o.cmp k (facts_by g.F.Fact.key_of (facts_in c.self.inside.pool c.self.inside.rows.rows))) (sym c.key-rest.ensures)
    ∙ fact_led g.F.Fact.rests g.F.Fact.key_of c.self.inside.pool c.self.inside.rows.rows c.self.invariant.0 c.key-rest.result c.in-Ok.slot at ∙ ap live_in c.set.ensures.1 in
    (λ e. absurd (cc), λ p. let gone : Some (c.set.result, c.set.ensures.0) ≡ None = sym found ∙ p.0 in absurd (cc))

pub returns-in_default-clause-order : goal.returns-in_default-clause-order
returns-in_default-clause-order g c = subst (λ cells. IsInOrder g.F.Fact.rests g.F.Fact.key_of
    (record { facts = facts_in cells c.self.inside.rows.rows; dead = dead_in cells c.self.inside.rows.rows; room = length cells })) (sym c.in_default.ensures.err)
    (in_order g.F.Fact.rests g.F.Fact.key_of c.self.inside.pool c.self.inside.rows.rows c.self.invariant.0 (length c.self.inside.pool))

pub returns-in_default-clause-full : goal.returns-in_default-clause-full
returns-in_default-clause-full g c =
    let o = fact_keys g.F.Fact.rests in
    let none : dead_in c.self.inside.pool c.self.inside.rows.rows ≡ [] = ap (λ t. t.dead) c.self.view_is ∙ c.requires.pulled in
    let gone =
    ap (λ t. find o.cmp (g.F.Fact.key_of c.args.fact) (facts_by g.F.Fact.key_of t.facts)) (sym c.self.view_is)
    ∙ ap (λ k. find o.cmp k (facts_by g.F.Fact.key_of (facts_in c.self.inside.pool c.self.inside.rows.rows))) (sym c.key-rest.ensures)
    ∙ no_fact_led g.F.Fact.rests g.F.Fact.key_of c.self.inside.pool c.self.inside.rows.rows c.self.invariant.0 c.key-rest.result
    (led g.F.Fact.rests g.F.Fact.key_of c.self.inside.pool c.self.inside.rows.rows c.self.invariant.0 c.key-rest.result None c.in-Err.ensures.absent.absent) in
    let many : length (facts_in c.self.inside.pool c.self.inside.rows.rows) ≡ length c.self.inside.pool =
    omega (
      arith,
      all_counted g.F.Fact.rests g.F.Fact.key_of c.self.inside.pool c.self.inside.rows.rows c.self.invariant.0,
      ap length none,
      used_all c.self.inside.pool c.in_default.ensures.full,
    ) in
    (λ _. (gone, ap (λ t. length t.facts) (sym c.self.view_is) ∙ many ∙ ap (λ t. t.room) c.self.view_is), λ _. refl)

-- the fact of a new key
new : (g : _) (c : After-insert_at g) → Puts g.F.Fact.rests g.F.Fact.key_of c.self.inside.pool c.self.inside.rows.rows c.self.invariant.0 c.key-rest.result
    (c.args.fact, c.args.left) c.add.new.self c.insert_at.new.self.rows
new g c =
    let none : dead_in c.self.inside.pool c.self.inside.rows.rows ≡ [] = ap (λ t. t.dead) c.self.view_is ∙ c.requires.pulled in
    puts_new g.F.Fact.rests g.F.Fact.key_of c.self.inside.pool c.self.inside.rows.rows c.self.invariant.0 c.key-rest.result c.in-Ok-add.slot.0 c.args.fact c.args.left c.add.new.self
    c.insert_at.new.self.rows
    c.in-Err.ensures.absent.absent none c.in-Ok-add.ensures.free c.in-Ok-add.ensures.placed (ap (λ t. t.rows) c.insert_at.ensures) (sym c.key-rest.ensures)

-- there is room for a row
pub insert_at-requires-clause-gap : goal.insert_at-requires-clause-gap
insert_at-requires-clause-gap g c = c.in-Err.ensures.absent

pub insert_at-requires-clause-left : goal.insert_at-requires-clause-left
insert_at-requires-clause-left g c =
    let few = used_some c.self.inside.pool c.in-Ok-add.slot.0 c.in-Ok-add.ensures.free in
    omega (arith, few, c.self.invariant.1, count_rows g.F.Fact.rests g.F.Fact.key_of c.self.inside.pool c.self.inside.rows.rows c.self.invariant.0)

pub insert_at-requires-clause-within : goal.insert_at-requires-clause-within
insert_at-requires-clause-within g c = omega (arith, c.self.invariant.1, within c.self.inside.pool c.in-Ok-add.slot.0 Free c.in-Ok-add.ensures.free)

pub insert_at-requires-clause-new : goal.insert_at-requires-clause-new
insert_at-requires-clause-new g c = not_used g.F.Fact.rests g.F.Fact.key_of c.self.inside.pool c.self.inside.rows.rows c.self.invariant.0 c.in-Ok-add.slot.0 c.in-Ok-add.ensures.free

pub invariant_of-self-in-Err : goal.invariant_of-self-in-Err
invariant_of-self-in-Err g c = (
  (new g c).index,
  ap (λ t. t.room) c.insert_at.ensures ∙ c.self.invariant.1
      ∙ sym (ap length c.in-Ok-add.ensures.placed ∙ length-set c.self.inside.pool c.in-Ok-add.slot.0 (Live c.args.fact c.args.left)),
)

pub returns-in-Ok-add-clause-ok : goal.returns-in-Ok-add-clause-ok
returns-in-Ok-add-clause-ok g c =
    let o = fact_keys g.F.Fact.rests in
    (new g c).facts ∙ ap (λ k. put o.cmp k (c.args.fact, c.args.left) (facts_by g.F.Fact.key_of (facts_in c.self.inside.pool c.self.inside.rows.rows))) c.key-rest.ensures
    ∙ ap (λ t. put o.cmp (g.F.Fact.key_of c.args.fact) (c.args.fact, c.args.left) (facts_by g.F.Fact.key_of t.facts)) c.self.view_is

pub returns-in-Ok-add-clause-order : goal.returns-in-Ok-add-clause-order
returns-in-Ok-add-clause-order g c = in_order g.F.Fact.rests g.F.Fact.key_of c.add.new.self c.insert_at.new.self.rows (new g c).index 0

pub returns-in-Ok-add-clause-dead : goal.returns-in-Ok-add-clause-dead
returns-in-Ok-add-clause-dead g c = (new g c).dead ∙ sym c.requires.pulled

pub returns-in-Ok-add-clause-full : goal.returns-in-Ok-add-clause-full
returns-in-Ok-add-clause-full g c =
    let few = used_some c.self.inside.pool c.in-Ok-add.slot.0 c.in-Ok-add.ensures.free in (
      λ e. absurd (cc),
      λ p. absurd (omega (
        arith,
        few,
        all_counted g.F.Fact.rests g.F.Fact.key_of c.self.inside.pool c.self.inside.rows.rows c.self.invariant.0,
        p.1,
        ap (λ t. length t.facts) c.self.view_is,
        ap (λ t. t.room) c.self.view_is,
      )),
    )
