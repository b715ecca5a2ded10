use Rattle.rsvp_base.specs.Orders.{senders}
use Rattle.rsvp_base.proofs.Rows.{searched_found, searched_absent}
use Rattle.router_aging.specs.Passing.{sender_row}
use Rattle.router_aging.proofs.known.search.Goals as goal

pub returns : goal.returns
returns c =
    record {
      there = searched_found senders sender_row c.args.list.now c.args.sender c.binary_search.result c.requires c.binary_search.ensures.bound c.binary_search.ensures.position;
      absent = searched_absent senders sender_row c.args.list.now c.args.sender c.binary_search.result c.requires c.binary_search.ensures.bound c.binary_search.ensures.position;
    }
