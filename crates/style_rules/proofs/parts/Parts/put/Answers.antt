use Rattle.rsvp_base.specs.Orders.{units}
use Rattle.rsvp_base.specs.Table.{put_in}
use Rattle.rsvp_base.proofs.Changes.{order_after, table_after, table_kept}
use Rattle.style_rules.specs.Merge.{PartTable}
use Rattle.style_rules.proofs.parts.Parts.put.Goals as goal

pub invariant_of-self-inside : goal.invariant_of-self-inside
invariant_of-self-inside c = (
  order_after units (λ e. e) c.put_row.result c.self.inside.rows.items c.put_row.new.rows.items c.self.inside.rising (λ (m : PartTable). put_in m c.args.unit c.args.part)
      (c.put_row.ensures.ok c.self.inside.rising) c.put_row.ensures.err,
  (c.put_row.ensures.few, tt),
)

pub returns-clause-ok : goal.returns-clause-ok
returns-clause-ok c = table_after units (λ e. e) c.put_row.result c.self.inside.rows.items c.put_row.new.rows.items c.self.inside.rising
    (λ (m : PartTable). put_in m c.args.unit c.args.part) _ c.args.self.now c.self.view_is (c.put_row.ensures.ok c.self.inside.rising)

pub returns-clause-err : goal.returns-clause-err
returns-clause-err c = table_kept units (λ e. e) c.put_row.result c.self.inside.rows.items c.put_row.new.rows.items c.self.inside.rising
    (λ (m : PartTable). put_in m c.args.unit c.args.part) _ c.args.self.now c.self.view_is c.put_row.ensures.err
