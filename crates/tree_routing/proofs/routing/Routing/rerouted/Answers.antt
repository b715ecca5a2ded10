use Rattle.std.proofs.Common.{◌≡◌, ◌∙◌, not, ap, subst, sym, rules, List, map as each}
use Rattle.tree_model.specs.Chains.{largest}
use Rattle.tree_model.specs.Networks.{Net}
use Rattle.tree_model.specs.Ranks.{longest}
use Rattle.tree_model.specs.Trees.{trees_of}
use Rattle.tree_model.specs.Valid.{IsValid}
use Rattle.tree_model.specs.declared.hops.TreeHop.{TreeHop}
use Rattle.tree_routing.specs.declared.ranked.RankedHop.{RankedHop}
use Rattle.tree_routing.specs.Known.{net_with}
use Rattle.tree_routing.specs.Order.{AreByRank, AreRankedHops, HaveRanks, group_hop_of, rank_of_hop}
use Rattle.tree_routing.specs.Reroutes.{moved, rerouted}
use Rattle.tree_routing.specs.Routes.{AreInOrder}
use Rattle.tree_routing.proofs.Rebuilt.{others_stay}
use Rattle.tree_routing.proofs.TreesThen.{put_trees, trees_up}
use Rattle.tree_routing.proofs.Woven.{largest_longest}
use Rattle.tree_routing.proofs.routing.Routing.rerouted.Goals as goal

pub put_tree-requires : goal.put_tree-requires
put_tree-requires c =
    let trees : c.in_ok-trees.trees.items ≡ c.self.inside.trees.items = search rules in
    trees_up c.self.inside.trees.items c.in_ok-trees.trees.items c.self.inside.hops.items trees c.self.invariant.2

pub invariant_of-result : goal.invariant_of-result
invariant_of-result c =
    let of = c.self.inside in
    let g = c.args.group in
    let s = c.args.source in
    let tree = c.args.tree.now in
    let then : Net = rerouted c.args.self.now g s tree in
    let xs : List RankedHop = c.in_ok-ranked.ranked.items in
    let ends : c.in_ok-ends.ends.items ≡ of.ends.items = search rules in
    let links : c.in_ok-links.links.items ≡ of.links.items = search rules in
    let trees : c.in_ok-trees.trees.items ≡ of.trees.items = search rules in
    let hops : c.in_ok-hops.hops.items ≡ moved g s tree of.hops.items = c.in_ok-hops.ensures ∙ ap (moved g s tree) c.as_slice-2.ensures.value in
    let is : net_with of.nodes c.in_ok-ends.ends.items c.in_ok-links.links.items c.in_ok-hops.hops.items ≡ then =
    (λ i. net_with of.nodes (ends i) (links i) (hops i)) ∙ ap (λ (m : Net). rerouted m g s tree) c.self.view_is in
    let ranked : AreRankedHops then xs = c.in_ok-ranked.ensures (moved g s tree c.args.self.now.hops) c.requires.valid (others_stay g s c.args.self.now.hops tree) c.requires.part in
    let order : c.in_ok-order.order.items ≡ each group_hop_of xs = c.in_ok-order.ensures ∙ ap (each group_hop_of) c.as_slice.ensures.value in (
      subst IsValid (sym is) c.requires.valid,
      c.largest_rank-chain.ensures ∙ ap (λ (ys : List RankedHop). largest (each rank_of_hop ys)) c.as_slice-7.ensures.value ∙ largest_longest then xs ranked ∙ ap longest (sym is),
      put_trees g s of.hops.items tree c.in_ok-trees.trees.items c.put_tree.new.trees.items _ (trees ∙ c.self.invariant.2) (ap not c.is_empty.ensures) c.in_ok-put_tree.ensures
          ∙ ap trees_of (sym hops),
      subst (λ (rs : List TreeHop). AreInOrder rs c.in_ok-sorted.sorted.items) (sym hops)
          (c.in_ok-sorted.ensures of.hops.items (subst (AreInOrder of.hops.items) (sym c.as_slice-3.ensures.value) c.self.invariant.3)),
      subst (λ (m : Net). AreByRank m c.in_ok-order.order.items) (sym is) (subst (AreByRank then) (sym order) ranked.hops),
      subst (λ (m : Net). HaveRanks m xs) (sym is) ranked.ranks,
      order,
    )
