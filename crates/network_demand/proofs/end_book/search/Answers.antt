use Rattle.std.proofs.Common.{rules, of_calls}
use Rattle.std.proofs.lemmas.Fn.{always_returns_same}
use Rattle.rsvp_base.proofs.Rows.{searched_found, searched_absent}
use Rattle.rsvp_base.specs.declared.part.Part.{Part}
use Rattle.rsvp_base.specs.declared.entry_key.EntryKey.{EntryKey}
use Rattle.rsvp_base.specs.Orders.{entry_keys}
use Rattle.network_demand.specs.Books.{book_row}
use Rattle.network_demand.proofs.end_book.search.Goals as goal

pub returns : goal.returns
returns c =
    let facts = c.binary_search_by.ensures in
    let by_key = facts.position (λ (x : EntryKey × Part). entry_keys.cmp x.0 c.args.key.now) (always_returns_same _ _ _ (λ a r f k. search (rules, of_calls))) in
    record {
      there = searched_found entry_keys book_row c.args.rows.now c.args.key.now c.binary_search_by.result c.requires facts.bound by_key;
      absent = searched_absent entry_keys book_row c.args.rows.now c.args.key.now c.binary_search_by.result c.requires facts.bound by_key;
    }
