use Rattle.std.proofs.Common.{rules}
use Rattle.std.proofs.lemmas.Fn.{always_returns_same}
use Rattle.rsvp_base.specs.Orders.{senders}
use Rattle.rsvp_base.proofs.Rows.{searched_found, searched_absent}
use Rattle.rsvp_messages.proofs.fixed_list.search.Goals as goal

pub returns : goal.returns
returns c =
    let facts = c.binary_search_by.ensures in
    let by_sender = facts.position (λ row. senders.cmp row.0 c.args.sender) (always_returns_same _ _ _ (λ a r g called. search rules)) in
    record {
      there = searched_found senders (λ row. row) c.args.rows.now c.args.sender c.binary_search_by.result c.requires facts.bound by_sender;
      absent = searched_absent senders (λ row. row) c.args.rows.now c.args.sender c.binary_search_by.result c.requires facts.bound by_sender;
    }
