use Rattle.std.proofs.Common.{◌≡◌, ap, arith}
use Rattle.std.specs.Prelude.{[]}
use Rattle.std.proofs.lemmas.Grind.{common_steps}
use Rattle.rsvp_base.proofs.Rows.{table_is}
use Rattle.admission_book.specs.EntryKeys.{places}
use Rattle.admission_book.specs.Rows.{as_entry, as_entries}
use Rattle.admission_book.proofs.RowLemmas.{same_bookings}
use Rattle.admission_book.proofs.book.Book.open.Goals as goal

pub returns : goal.returns
returns c =
    let copied : c.in_ok-copy.copy.items ≡ c.args.ifaces.now.items = grind (arith, common_steps) in
    let none : c.in_ok-rows.rows.items ≡ [] = grind (arith, common_steps) in
    same_bookings _ _ copied (table_is places as_entry c.in_ok-rows.rows.items _ _ (ap as_entries none))
