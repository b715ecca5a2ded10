use Rattle.std.proofs.Common.{rules}
use Rattle.std.proofs.lemmas.Fn.{always_returns_same}
use Rattle.rsvp_base.proofs.Rows.{searched_found, searched_absent}
use Rattle.rsvp_base.specs.Orders.{sessions}
use Rattle.soft_table.specs.Lists.{head_row}
use Rattle.soft_table.proofs.heads.search.Goals as goal

pub returns : goal.returns
returns c =
    let facts = c.binary_search_by.ensures in
    let by_key = facts.position (λ h. sessions.cmp h.session c.args.session) (always_returns_same _ _ _ (λ a r h called. search rules)) in
    record {
      there = searched_found sessions head_row c.args.heads.now c.args.session c.binary_search_by.result c.requires facts.bound by_key;
      absent = searched_absent sessions head_row c.args.heads.now c.args.session c.binary_search_by.result c.requires facts.bound by_key;
    }
