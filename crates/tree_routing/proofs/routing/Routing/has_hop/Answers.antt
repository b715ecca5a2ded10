use Rattle.std.proofs.Common.{◌∙◌}
use Rattle.tree_routing.specs.Known.{net_with}
use Rattle.tree_routing.proofs.HopLaws.{order_at, hop_at}
use Rattle.tree_routing.proofs.routing.Routing.has_hop.Goals as goal

pub is_among-requires : goal.is_among-requires
is_among-requires c = order_at c.self.inside.hops.items c.self.inside.sorted.items c.as_slice.result.now c.as_slice.ensures.value c.self.invariant.3

pub returns : goal.returns
returns c =
    c.is_among.ensures
    ∙ hop_at c.args.self.now (net_with c.self.inside.nodes c.self.inside.ends.items c.self.inside.links.items c.self.inside.hops.items) c.self.inside.sorted.items c.as_slice.result.now
    (record { group = c.args.group; source = c.args.source; hop = c.args.hop }) c.self.view_is c.as_slice.ensures.value c.self.invariant.3
