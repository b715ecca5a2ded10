use Rattle.std.proofs.Common.{◌∙◌, ap, sym}
use Rattle.std.specs.FinMap.Entries.{find}
use Rattle.rsvp_base.proofs.Changes.{order_after, table_after, table_kept}
use Rattle.style_rules.specs.Lines.{BookTable}
use Rattle.rsvp_base.specs.Orders.{entry_keys}
use Rattle.network_demand.specs.Books.{book_row, charged}
use Rattle.network_demand.proofs.end_book.EndBook.charge.Goals as goal

pub join_at-requires-clause-room : goal.join_at-requires-clause-room
join_at-requires-clause-room g c = λ q e. c.requires q (ap (λ (t : BookTable). find entry_keys.cmp c.args.key t.rows) (sym c.self.view_is) ∙ e)

pub invariant_of-self-inside : goal.invariant_of-self-inside
invariant_of-self-inside g c = (
  order_after entry_keys book_row c.join_at.result c.self.inside.rows.items c.join_at.new.rows.items c.self.inside.in_order
      (λ b. charged b c.args.key c.args.part.now) c.join_at.ensures.rows c.join_at.ensures.err,
  tt,
)

pub returns-clause-ok : goal.returns-clause-ok
returns-clause-ok g c = table_after entry_keys book_row c.join_at.result c.self.inside.rows.items c.join_at.new.rows.items c.self.inside.in_order
    (λ b. charged b c.args.key c.args.part.now) _ c.args.self.now c.self.view_is c.join_at.ensures.rows

pub returns-clause-err : goal.returns-clause-err
returns-clause-err g c = table_kept entry_keys book_row c.join_at.result c.self.inside.rows.items c.join_at.new.rows.items c.self.inside.in_order
    (λ b. charged b c.args.key c.args.part.now) _ c.args.self.now c.self.view_is c.join_at.ensures.err
