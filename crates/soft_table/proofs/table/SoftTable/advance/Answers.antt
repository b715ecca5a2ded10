use Rattle.std.proofs.Common.{◌≡◌, [], length, sym, ap, ◌∙◌}
use Rattle.std.specs.List.{filter_map}
use Rattle.std.proofs.lemmas.List.{length-map}
use Rattle.soft_table.specs.Cells.{aged}
use Rattle.soft_table.specs.Facts.{lives_on, dies}
use Rattle.soft_table.specs.Index.{facts_in, dead_in}
use Rattle.soft_table.proofs.Views.{none_waits, in_order, facts_later, dead_later}
use Rattle.soft_table.proofs.Changes.{index_later}
use Rattle.soft_table.proofs.table.SoftTable.advance.Goals as goal

pub advance-requires : goal.advance-requires
advance-requires g c =
    let none : dead_in c.self.inside.pool c.self.inside.rows.rows ≡ [] = ap (λ t. t.dead) c.self.view_is ∙ c.requires in
    none_waits g.F.Fact.rests g.F.Fact.key_of c.self.inside.pool c.self.inside.rows.rows c.self.invariant.0 none

pub invariant_of-self : goal.invariant_of-self
invariant_of-self g c =
    let room : length c.advance.new.self ≡ length c.self.inside.pool = ap length c.advance.ensures ∙ length-map c.self.inside.pool (aged c.args.ms) in
    (index_later g.F.Fact.rests g.F.Fact.key_of c.self.inside.pool c.self.inside.rows.rows c.self.invariant.0 c.args.ms c.advance.new.self c.advance.ensures, c.self.invariant.1 ∙ sym room)

pub returns-clause-facts : goal.returns-clause-facts
returns-clause-facts g c =
    ap (λ cs. facts_in cs c.self.inside.rows.rows) c.advance.ensures ∙ facts_later c.args.ms c.self.inside.pool c.self.inside.rows.rows
    ∙ ap (λ t. filter_map (lives_on c.args.ms) t.facts) c.self.view_is

pub returns-clause-dead : goal.returns-clause-dead
returns-clause-dead g c =
    let none : dead_in c.self.inside.pool c.self.inside.rows.rows ≡ [] = ap (λ t. t.dead) c.self.view_is ∙ c.requires in
    ap (λ cs. dead_in cs c.self.inside.rows.rows) c.advance.ensures
    ∙ dead_later c.args.ms c.self.inside.pool c.self.inside.rows.rows (none_waits g.F.Fact.rests g.F.Fact.key_of c.self.inside.pool c.self.inside.rows.rows c.self.invariant.0 none)
    ∙ ap (λ t. filter_map (dies c.args.ms) t.facts) c.self.view_is

pub returns-clause-order : goal.returns-clause-order
returns-clause-order g c =
    in_order g.F.Fact.rests g.F.Fact.key_of c.advance.new.self c.self.inside.rows.rows
    (index_later g.F.Fact.rests g.F.Fact.key_of c.self.inside.pool c.self.inside.rows.rows c.self.invariant.0 c.args.ms c.advance.new.self c.advance.ensures) 0
