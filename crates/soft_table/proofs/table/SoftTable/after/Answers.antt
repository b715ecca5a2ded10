use Rattle.std.proofs.Common.{None, refl, ap, ◌∙◌}
use Rattle.std.specs.Prelude.{slice_get}
use Rattle.std.specs.Option.{option_map}
use Rattle.soft_table.specs.Facts.{facts_by, rows_behind}
use Rattle.rsvp_base.specs.Orders.{sessions}
use Rattle.rsvp_base.specs.Under.{rows_under}
use Rattle.rsvp_base.proofs.Tables.{holds}
use Rattle.soft_table.proofs.Walks.{are_slots, sorted_own, own_led, next_fact}
use Rattle.soft_table.proofs.table.SoftTable.after.Goals as goal

pub behind-from-requires-clause-sorted : goal.behind-from-requires-clause-sorted
behind-from-requires-clause-sorted g c = holds _ (sorted_own g.F.Fact.rests g.F.Fact.key_of c.self.inside.pool c.self.inside.rows.rows c.self.invariant.0 c.args.session)

pub behind-from-requires-clause-led : goal.behind-from-requires-clause-led
behind-from-requires-clause-led g c = λ s f at is. own_led g.F.Fact.rests g.F.Fact.key_of c.self.inside.pool c.self.inside.rows.rows c.self.invariant.0 c.args.session c.args.rest s f at is

pub nth-requires-clause-slots : goal.nth-requires-clause-slots
nth-requires-clause-slots g c = are_slots g.F.Fact.rests g.F.Fact.key_of c.self.inside.pool c.self.inside.rows.rows c.self.invariant.0 c.args.session

pub nth-requires-clause-from : goal.nth-requires-clause-from
nth-requires-clause-from g c = let at = c.behind-from.ensures in (at.0, at.1)

pub returns-in-Some : goal.returns-in-Some
returns-in-Some g c =
    let at = c.behind-from.ensures in
    c.fact_in.ensures ∙ next_fact g.F.Fact.rests g.F.Fact.key_of c.self.inside.pool c.self.inside.rows.rows c.self.invariant.0 c.args.session c.args.rest at.0 _ at.2 (c.in-Some.ensures.some at.0 at.1)
    ∙ ap (λ t. option_map (λ e. e.1.0) (slice_get (rows_behind g.F.Fact.rests c.args.rest (rows_under sessions g.F.Fact.rests c.args.session (facts_by g.F.Fact.key_of t.facts))) 0)) c.self.view_is

pub returns-in-None : goal.returns-in-None
returns-in-None g c =
    let at = c.behind-from.ensures in
    next_fact g.F.Fact.rests g.F.Fact.key_of c.self.inside.pool c.self.inside.rows.rows c.self.invariant.0 c.args.session c.args.rest at.0 None at.2
    (ap (option_map (λ e. e.1)) (c.in-None.ensures.none refl at.0 at.1))
    ∙ ap (λ t. option_map (λ e. e.1.0) (slice_get (rows_behind g.F.Fact.rests c.args.rest (rows_under sessions g.F.Fact.rests c.args.session (facts_by g.F.Fact.key_of t.facts))) 0)) c.self.view_is
