use Rattle.std.proofs.Common.{None, refl, ap, ◌∙◌}
use Rattle.std.specs.Prelude.{slice_get}
use Rattle.std.specs.Option.{option_map}
use Rattle.soft_table.specs.Facts.{facts_by}
use Rattle.rsvp_base.specs.Orders.{sessions}
use Rattle.rsvp_base.specs.Under.{rows_under}
use Rattle.soft_table.proofs.Walks.{are_slots, kth_fact}
use Rattle.soft_table.proofs.table.SoftTable.at.Goals as goal

pub nth-requires-clause-slots : goal.nth-requires-clause-slots
nth-requires-clause-slots g c = are_slots g.F.Fact.rests g.F.Fact.key_of c.self.inside.pool c.self.inside.rows.rows c.self.invariant.0 c.args.session

pub nth-requires-clause-from : goal.nth-requires-clause-from
nth-requires-clause-from g c = (0, c.first-from.ensures)

pub returns-in-Some : goal.returns-in-Some
returns-in-Some g c =
    c.fact_in.ensures ∙ kth_fact g.F.Fact.rests g.F.Fact.key_of c.self.inside.pool c.self.inside.rows.rows c.self.invariant.0 c.args.session c.args.k _ (c.in-Some.ensures.some 0 c.first-from.ensures)
    ∙ ap (λ t. option_map (λ e. e.1.0) (slice_get (rows_under sessions g.F.Fact.rests c.args.session (facts_by g.F.Fact.key_of t.facts)) c.args.k)) c.self.view_is

pub returns-in-None : goal.returns-in-None
returns-in-None g c =
    kth_fact g.F.Fact.rests g.F.Fact.key_of c.self.inside.pool c.self.inside.rows.rows c.self.invariant.0 c.args.session c.args.k None
    (ap (option_map (λ e. e.1)) (c.in-None.ensures.none refl 0 c.first-from.ensures))
    ∙ ap (λ t. option_map (λ e. e.1.0) (slice_get (rows_under sessions g.F.Fact.rests c.args.session (facts_by g.F.Fact.key_of t.facts)) c.args.k)) c.self.view_is
