use Rattle.std.proofs.Common.{◌≡◌, subst}
use Rattle.std.specs.Prelude.{◌↔◌}
use Rattle.std.specs.Int.{bit_at}
use Rattle.tree_model.specs.Networks.{Net}
use Rattle.tree_routing.specs.Known.{net_with}
use Rattle.tree_routing.specs.Routes.{LeavesBy}
use Rattle.tree_routing.proofs.WayLaws.{from_below, leaves_at}
use Rattle.tree_routing.proofs.routing.Routing.outward.Goals as goal

pub ways_out-requires-clause-inside : goal.ways_out-requires-clause-inside
ways_out-requires-clause-inside c =
    let net = net_with c.self.inside.nodes c.self.inside.ends.items c.self.inside.links.items c.self.inside.hops.items in
    from_below net c.self.invariant.0 c.self.inside.sorted.items c.self.invariant.3 c.as_slice-2.result.now c.as_slice.result.now c.of_tree-hops.result.now c.args.group c.args.source
    c.as_slice-2.ensures.value c.as_slice.ensures.value c.of_tree-hops.ensures

pub returns : goal.returns
returns c = λ i.
    let net = net_with c.self.inside.nodes c.self.inside.ends.items c.self.inside.links.items c.self.inside.hops.items in
    subst (λ (m : Net). (bit_at c.ways_out.result i ≡ 1) ↔ LeavesBy m c.args.node c.args.group c.args.source i) c.self.view_is
    (leaves_at net c.self.invariant.0 c.self.inside.sorted.items c.self.invariant.3 c.as_slice-2.result.now c.as_slice.result.now c.of_tree-hops.result.now c.args.group c.args.source
    c.as_slice-2.ensures.value c.as_slice.ensures.value c.of_tree-hops.ensures c.args.node i c.ways_out.result (c.ways_out.ensures i))
