use Rattle.std.proofs.Common.{◌≡◌, ◌∙◌, ap, subst, sym, List, refl, map as each}
use Rattle.tree_model.specs.Ranks.{longest}
use Rattle.tree_model.specs.Trees.{trees_of}
use Rattle.tree_model.specs.Valid.{IsValid}
use Rattle.tree_model.specs.declared.hops.TreeHop.{TreeHop}
use Rattle.tree_routing.specs.declared.known.Known.{Known}
use Rattle.tree_routing.specs.Known.{plain, net_of, net_with}
use Rattle.tree_routing.specs.Levels.{highest}
use Rattle.tree_routing.specs.Order.{AreByRank, AreRankedHops, HaveRanks, group_hop_of}
use Rattle.tree_routing.specs.Routes.{AreInOrder}
use Rattle.tree_routing.proofs.LevelLaws.{highest_is_longest}
use Rattle.tree_routing.proofs.OrderLaws.{ranked_of}
use Rattle.tree_routing.proofs.routing.Routing.of.Goals as goal

pub invariant_of-result : goal.invariant_of-result
invariant_of-result c =
    let nodes = c.args.nodes in
    let ends = c.args.ends.items in
    let links = c.args.links.items in
    let ks : List Known = c.args.hops.items in
    let all : List TreeHop = c.in_ok-all.all.items in
    let are : all ≡ plain ks = c.in_ok-all.ensures ∙ ap plain c.as_slice-4.ensures.value in
    let chain : c.highest-chain.result ≡ longest (net_of nodes ends links ks) = c.highest-chain.ensures ∙ (λ i. highest (c.as_slice.ensures.value i) (c.requires.levels i))
    ∙ highest_is_longest nodes ends links ks c.requires.valid c.requires.known in
    let ranked : AreRankedHops (net_of nodes ends links ks) c.in_ok-ranked.ranked.items =
    ranked_of nodes ends links ks c.requires.valid c.requires.known c.as_slice-2.result.now ks c.args.lifted.now c.args.lifted.now c.highest-chain.result c.in_ok-ranked.ranked.items
    c.in_ok-ranked.ensures
    c.as_slice-2.ensures.value refl c.requires.levels refl chain in
    let order : c.in_ok-order.order.items ≡ each group_hop_of c.in_ok-ranked.ranked.items = c.in_ok-order.ensures ∙ ap (each group_hop_of) c.as_slice-3.ensures.value in (
      subst (λ (rs : List TreeHop). IsValid (net_with nodes ends links rs)) (sym are) c.requires.valid,
      chain ∙ ap (λ (rs : List TreeHop). longest (net_with nodes ends links rs)) (sym are),
      c.in_ok-trees.ensures ∙ ap trees_of c.as_slice-5.ensures.value,
      subst (λ (rs : List TreeHop). AreInOrder rs c.in_ok-sorted.sorted.items) c.as_slice-6.ensures.value c.in_ok-sorted.ensures,
      subst (λ (rs : List TreeHop). AreByRank (net_with nodes ends links rs) c.in_ok-order.order.items) (sym are) (subst (AreByRank (net_of nodes ends links ks)) (sym order) ranked.hops),
      subst (λ (rs : List TreeHop). HaveRanks (net_with nodes ends links rs) c.in_ok-ranked.ranked.items) (sym are) ranked.ranks,
      order,
    )
