use Rattle.std.proofs.Common.{ℕ, rules, of_calls}
use Rattle.std.proofs.lemmas.Fn.{always_returns_same}
use Rattle.rsvp_base.specs.declared.addr.Addr.{Addr}
use Rattle.rsvp_base.proofs.Rows.{searched_found, searched_absent}
use Rattle.path_state.specs.Paths.{path_hops, hop_row}
use Rattle.path_state.proofs.hops.search.Goals as goal

pub returns : goal.returns
returns c =
    let is = c.binary_search_by.ensures.position (λ (x : ℕ × Addr). path_hops.cmp x c.args.hop) (always_returns_same _ _ _ (λ a r f k. search (rules, of_calls))) in
    record {
      there = searched_found path_hops hop_row c.args.list.now c.args.hop c.binary_search_by.result c.requires c.binary_search_by.ensures.bound is;
      absent = searched_absent path_hops hop_row c.args.list.now c.args.hop c.binary_search_by.result c.requires c.binary_search_by.ensures.bound is;
    }
