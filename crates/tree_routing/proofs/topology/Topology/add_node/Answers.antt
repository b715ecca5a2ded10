use Rattle.std.proofs.Common.{◌<◌, sym, subst}
use Rattle.tree_model.specs.Networks.{Net}
use Rattle.tree_routing.specs.Known.{net_of}
use Rattle.tree_routing.proofs.ValidMore.{valid_node}
use Rattle.tree_routing.proofs.topology.Topology.add_node.Goals as goal

pub invariant_of-self : goal.invariant_of-self
invariant_of-self c = (
  valid_node (net_of c.self.inside.nodes c.self.inside.ends.items c.self.inside.links.items c.self.inside.hops.items) c.self.invariant.0
      (subst (λ (net : Net). net.nodes < 256) (sym c.self.view_is) c.requires),
  c.self.invariant.1,
)
