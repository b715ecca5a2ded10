use Rattle.std.proofs.Common.{Some, None, sym, ap, ◌∙◌}
use Rattle.std.specs.Option.{option_map}
use Rattle.std.specs.FinMap.Entries.{find}
use Rattle.soft_table.specs.Facts.{fact_keys, facts_by}
use Rattle.soft_table.proofs.Changes.{led, within_slots, fact_led, no_fact_led}
use Rattle.soft_table.proofs.table.SoftTable.find.Goals as goal

pub fact_in-requires : goal.fact_in-requires
fact_in-requires g c = within_slots g.F.Fact.rests g.F.Fact.key_of c.self.inside.pool c.self.inside.rows.rows c.self.invariant.0 (c.args.session, c.args.rest) c.in-Some.slot
    (led g.F.Fact.rests g.F.Fact.key_of c.self.inside.pool c.self.inside.rows.rows c.self.invariant.0 (c.args.session, c.args.rest) (Some c.in-Some.slot) (sym c.find.ensures ∙ c.in-Some.is))

pub returns-in-Some : goal.returns-in-Some
returns-in-Some g c =
    let at = led g.F.Fact.rests g.F.Fact.key_of c.self.inside.pool c.self.inside.rows.rows c.self.invariant.0 (c.args.session, c.args.rest) (Some c.in-Some.slot) (sym c.find.ensures ∙ c.in-Some.is) in
    let found = fact_led g.F.Fact.rests g.F.Fact.key_of c.self.inside.pool c.self.inside.rows.rows c.self.invariant.0 (c.args.session, c.args.rest) c.in-Some.slot at in
    c.fact_in.ensures ∙ ap (option_map (λ e. e.0)) (sym found ∙ ap (λ t. find (fact_keys g.F.Fact.rests).cmp (c.args.session, c.args.rest) (facts_by g.F.Fact.key_of t.facts)) c.self.view_is)

pub returns-in-None : goal.returns-in-None
returns-in-None g c =
    let none = no_fact_led g.F.Fact.rests g.F.Fact.key_of c.self.inside.pool c.self.inside.rows.rows c.self.invariant.0 (c.args.session, c.args.rest)
    (led g.F.Fact.rests g.F.Fact.key_of c.self.inside.pool c.self.inside.rows.rows c.self.invariant.0 (c.args.session, c.args.rest) None (sym c.find.ensures ∙ c.in-None.is)) in
    ap (option_map (λ e. e.0)) (sym none ∙ ap (λ t. find (fact_keys g.F.Fact.rests).cmp (c.args.session, c.args.rest) (facts_by g.F.Fact.key_of t.facts)) c.self.view_is)
