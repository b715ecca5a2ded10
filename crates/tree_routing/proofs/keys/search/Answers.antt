use Rattle.std.proofs.Common.{rules}
use Rattle.std.proofs.lemmas.Fn.{always_returns_same}
use Rattle.rsvp_base.proofs.Rows.{searched_found, searched_absent}
use Rattle.tree_model.specs.Trees.{tree_keys}
use Rattle.tree_routing.specs.Routes.{as_row}
use Rattle.tree_routing.proofs.keys.search.Goals as goal

pub returns : goal.returns
returns c =
    let facts = c.binary_search_by.ensures in
    let by_tree = facts.position (λ row. tree_keys.cmp row c.args.tree) (always_returns_same _ _ _ (λ a r g called. search rules)) in
    record {
      there = searched_found tree_keys as_row c.args.trees.now c.args.tree c.binary_search_by.result c.requires facts.bound by_tree;
      absent = searched_absent tree_keys as_row c.args.trees.now c.args.tree c.binary_search_by.result c.requires facts.bound by_tree;
    }
