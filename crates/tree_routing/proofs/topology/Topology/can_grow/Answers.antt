use Rattle.tree_routing.proofs.Rebuilt.{fits_at}
use Rattle.tree_routing.proofs.topology.Topology.can_grow.Goals as goal

pub returns : goal.returns
returns c =
    fits_at c.args.self.now c.self.inside.nodes c.self.inside.ends.items c.as_slice.result.now c.self.inside.links.items c.as_slice-2.result.now c.self.inside.hops.items c.as_slice-3.result.now
    c.args.hop.now c.can_grow.result
    c.self.view_is c.as_slice.ensures.value c.as_slice-2.ensures.value c.as_slice-3.ensures.value c.can_grow.ensures
