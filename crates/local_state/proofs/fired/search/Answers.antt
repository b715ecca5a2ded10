use Rattle.rsvp_base.specs.Orders.{sessions}
use Rattle.rsvp_base.proofs.Rows.{searched_found, searched_absent}
use Rattle.local_state.specs.Rows.{session_row}
use Rattle.local_state.proofs.fired.search.Goals as goal

pub returns : goal.returns
returns c =
    record {
      there = searched_found sessions session_row c.args.list.now c.args.session c.binary_search.result c.requires c.binary_search.ensures.bound c.binary_search.ensures.position;
      absent = searched_absent sessions session_row c.args.list.now c.args.session c.binary_search.result c.requires c.binary_search.ensures.bound c.binary_search.ensures.position;
    }
