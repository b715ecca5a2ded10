use Rattle.std.proofs.Common.{◌≡◌, ap, arith}
use Rattle.std.specs.Prelude.{[], map as each}
use Rattle.std.proofs.lemmas.Grind.{common_steps}
use Rattle.rsvp_base.specs.Table.{empty}
use Rattle.rsvp_base.proofs.Rows.{table_is}
use Rattle.rsvp_base.specs.Orders.{entry_keys}
use Rattle.network_demand.specs.Books.{book_row}
use Rattle.network_demand.proofs.end_book.EndBook.new.Goals as goal

pub returns : goal.returns
returns c =
    let none : c.new.result.items ≡ [] = grind (arith, common_steps) in
    table_is entry_keys book_row c.new.result.items _ empty (ap (each book_row) none)
