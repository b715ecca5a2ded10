use Rattle.std.proofs.Common.{◌≡◌, ℕ, [], length, Option, Some, None, sym, ap, subst, ◌∙◌}
use Rattle.std.specs.FinMap.Entries.{find, put}
use Rattle.std.proofs.lemmas.List.{length-set}
use Rattle.soft_table.specs.Facts.{IsInOrder, fact_keys, facts_by}
use Rattle.soft_table.specs.Index.{dead_in, live_in, value_in}
use Rattle.soft_table.proofs.Views.{in_order}
use Rattle.soft_table.proofs.Changes.{Puts, fact_led, led, live_led, no_fact_led, puts_over}
use Rattle.soft_table.proofs.table.SoftTable.renew_if.Goals as goal
use Rattle.soft_table.proofs.table.SoftTable.renew_if.Goals.{After-renew, Then-not-passes}

no_fact : {A : Type 0} (a : A) → ◌≡◌ {A = Option A} (Some a) None → ⊥
no_fact a e = absurd (cc)

same_value : {A : Type 0} (a b : A) → ◌≡◌ {A = Option A} (Some a) (Some b) → a ≡ b
same_value a b e = cc

same_first : {A : Type 0} (a b : A) (x y : ℕ) → ◌≡◌ {A = Option (A × ℕ)} (Some (a, x)) (Some (b, y)) → a ≡ b
same_first a b x y e = ap (λ z. z.0) (same_value (a, x) (b, y) e)

pub returns-in_default-clause-other : goal.returns-in_default-clause-other
returns-in_default-clause-other g c = λ _ fact was is.
    let none =
    ap (λ t. find (fact_keys g.F.Fact.rests).cmp (c.args.session, c.args.rest) (facts_by g.F.Fact.key_of t.facts)) (sym c.self.view_is)
    ∙ no_fact_led g.F.Fact.rests g.F.Fact.key_of c.self.inside.pool c.self.inside.rows.rows c.self.invariant.0 (c.args.session, c.args.rest)
    (led g.F.Fact.rests g.F.Fact.key_of c.self.inside.pool c.self.inside.rows.rows c.self.invariant.0 (c.args.session, c.args.rest) None (sym c.find.ensures ∙ c.in_default.is)) in
    absurd (no_fact (fact, was) (sym is ∙ none))

pub returns-in_default-clause-order : goal.returns-in_default-clause-order
returns-in_default-clause-order g c = subst (λ t. IsInOrder g.F.Fact.rests g.F.Fact.key_of t) c.self.view_is
    (in_order g.F.Fact.rests g.F.Fact.key_of c.self.inside.pool c.self.inside.rows.rows c.self.invariant.0 (length c.self.inside.pool))

pub get-requires : goal.get-requires
get-requires g c =
    let none : dead_in c.self.inside.pool c.self.inside.rows.rows ≡ [] = ap (λ t. t.dead) c.self.view_is ∙ c.requires.pulled in
    live_led g.F.Fact.rests g.F.Fact.key_of c.self.inside.pool c.self.inside.rows.rows c.self.invariant.0 (c.args.session, c.args.rest) c.in-Some.slot
    (led g.F.Fact.rests g.F.Fact.key_of c.self.inside.pool c.self.inside.rows.rows c.self.invariant.0 (c.args.session, c.args.rest) (Some c.in-Some.slot) (sym c.find.ensures ∙ c.in-Some.is)) none

-- the fact that does not pass is that of the key
found : (g : _) (c : Then-not-passes g) → find (fact_keys g.F.Fact.rests).cmp (c.args.session, c.args.rest) (facts_by g.F.Fact.key_of c.args.self.now.facts) ≡ Some (c.get.result.now, c.get.ensures.0)
found g c =
    ap (λ t. find (fact_keys g.F.Fact.rests).cmp (c.args.session, c.args.rest) (facts_by g.F.Fact.key_of t.facts)) (sym c.self.view_is)
    ∙ fact_led g.F.Fact.rests g.F.Fact.key_of c.self.inside.pool c.self.inside.rows.rows c.self.invariant.0 (c.args.session, c.args.rest) c.in-Some.slot
    (led g.F.Fact.rests g.F.Fact.key_of c.self.inside.pool c.self.inside.rows.rows c.self.invariant.0 (c.args.session, c.args.rest) (Some c.in-Some.slot) (sym c.find.ensures ∙ c.in-Some.is))
    ∙ ap live_in c.get.ensures.1

pub returns-then-not-passes-clause-other : goal.returns-then-not-passes-clause-other
returns-then-not-passes-clause-other g c = λ _ fact was is.
    let same = same_first c.get.result.now fact c.get.ensures.0 was (sym (found g c) ∙ is) in
    (c.get.result, subst (λ b. g.P.FnOnce.post c.args.passes (c.get.result, tt) b) c.if-not-passes.true c.passes.ensures, same)

pub returns-then-not-passes-clause-order : goal.returns-then-not-passes-clause-order
returns-then-not-passes-clause-order g c = subst (λ t. IsInOrder g.F.Fact.rests g.F.Fact.key_of t) c.self.view_is
    (in_order g.F.Fact.rests g.F.Fact.key_of c.self.inside.pool c.self.inside.rows.rows c.self.invariant.0 (length c.self.inside.pool))

-- it stands in its slot as before, with another time left
over : (g : _) (c : After-renew g) → Puts g.F.Fact.rests g.F.Fact.key_of c.self.inside.pool c.self.inside.rows.rows c.self.invariant.0 (c.args.session, c.args.rest)
    (c.renew.ensures.0, c.args.left) c.renew.new.self c.self.inside.rows.rows
over g c =
    let none : dead_in c.self.inside.pool c.self.inside.rows.rows ≡ [] = ap (λ t. t.dead) c.self.view_is ∙ c.requires.pulled in
    let at = led g.F.Fact.rests g.F.Fact.key_of c.self.inside.pool c.self.inside.rows.rows c.self.invariant.0 (c.args.session, c.args.rest) (Some c.in-Some.slot) (sym c.find.ensures ∙ c.in-Some.is) in
    let own = c.self.invariant.0.linked.holds (c.args.session, c.args.rest) c.in-Some.slot at in
    let same = same_value c.renew.ensures.0 own.0 (sym (ap value_in c.renew.ensures.2) ∙ own.1) in
    puts_over g.F.Fact.rests g.F.Fact.key_of c.self.inside.pool c.self.inside.rows.rows c.self.invariant.0
    (c.args.session, c.args.rest) c.in-Some.slot c.renew.ensures.0 c.renew.ensures.0 c.renew.ensures.1 c.args.left c.renew.new.self at none c.renew.ensures.2 c.renew.ensures.3
    (ap g.F.Fact.key_of same ∙ own.2)

pub invariant_of-self : goal.invariant_of-self
invariant_of-self g c = ((over g c).index, c.self.invariant.1 ∙ sym (ap length c.renew.ensures.3 ∙ length-set c.self.inside.pool c.in-Some.slot _))

pub returns-clause-renewed : goal.returns-clause-renewed
returns-clause-renewed g c = λ _.
    let o = fact_keys g.F.Fact.rests in
    let at = led g.F.Fact.rests g.F.Fact.key_of c.self.inside.pool c.self.inside.rows.rows c.self.invariant.0 (c.args.session, c.args.rest) (Some c.in-Some.slot) (sym c.find.ensures ∙ c.in-Some.is) in
    let there =
    ap (λ t. find o.cmp (c.args.session, c.args.rest) (facts_by g.F.Fact.key_of t.facts)) (sym c.self.view_is)
    ∙ fact_led g.F.Fact.rests g.F.Fact.key_of c.self.inside.pool c.self.inside.rows.rows c.self.invariant.0 (c.args.session, c.args.rest) c.in-Some.slot at ∙ ap live_in c.renew.ensures.2 in
    let same = same_value c.get.result.now c.renew.ensures.0 (ap value_in (sym c.get.ensures.1 ∙ c.renew.ensures.2)) in (
      c.renew.ensures.0,
      c.renew.ensures.1,
      there,
      (c.get.result, subst (λ b. g.P.FnOnce.post c.args.passes (c.get.result, tt) b) c.if-not-passes.false c.passes.ensures, same),
      (over g c).facts ∙ ap (λ t. put o.cmp (c.args.session, c.args.rest) (c.renew.ensures.0, c.args.left) (facts_by g.F.Fact.key_of t.facts)) c.self.view_is,
    )

pub returns-clause-order : goal.returns-clause-order
returns-clause-order g c = in_order g.F.Fact.rests g.F.Fact.key_of c.renew.new.self c.self.inside.rows.rows (over g c).index 0

pub returns-clause-dead : goal.returns-clause-dead
returns-clause-dead g c = (over g c).dead ∙ sym c.requires.pulled
