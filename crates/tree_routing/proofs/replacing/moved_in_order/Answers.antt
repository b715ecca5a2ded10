use Rattle.std.proofs.Common.{◌≡◌, ◌∙◌, ◌++◌, not, ap, rules, map as each, List, subst}
use Rattle.std.specs.List.{filter}
use Rattle.std.specs.Ordering.{is_le, is_lt}
use Rattle.tree_model.specs.declared.hops.TreeHop.{TreeHop}
use Rattle.tree_routing.specs.Reroutes.{tree_hop}
use Rattle.tree_routing.specs.Routes.{against_tree, AreInOrder}
use Rattle.tree_routing.proofs.Moved.{moved_order_of}
use Rattle.tree_routing.proofs.replacing.moved_in_order.Goals as goal

pub returns : goal.returns
returns c = λ hops order.
    let g = c.args.group in
    let s = c.args.source in
    let sorted = c.args.sorted.now in
    let mine : List TreeHop = c.in_ok-mine.mine.items in
    let front : List TreeHop = filter (λ (r : TreeHop). is_lt (against_tree g s r)) sorted in
    let back : List TreeHop = filter (λ (r : TreeHop). not (is_le (against_tree g s r))) sorted in
    let tree : List TreeHop = each (tree_hop g s) c.args.tree.now in
    let list : c.as_slice.result.now ≡ tree = c.as_slice.ensures.value ∙ c.in_ok-add_tree.ensures ∙ ap (λ (rs : List TreeHop). rs ++ tree) c.new-hops.ensures.items in
    let own : AreInOrder tree mine = subst (λ (rs : List TreeHop). AreInOrder rs mine) list c.in_ok-mine.ensures in
    let first : c.add_before.new.all.items ≡ front = c.in_ok-add_before.ensures ∙ ap (λ (rs : List TreeHop). rs ++ front) c.new-all.ensures.items in
    let middle : c.extend_from_slice.new.self.items ≡ c.add_before.new.all.items ++ mine = search rules in
    moved_order_of g s c.args.tree.now hops sorted mine c.add_behind.new.all.items order own
    (c.in_ok-add_behind.ensures ∙ ap (λ (rs : List TreeHop). rs ++ back) (middle ∙ ap (λ (rs : List TreeHop). rs ++ mine) first))
