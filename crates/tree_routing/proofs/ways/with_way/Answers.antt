use Rattle.tree_routing.proofs.WayLaws.{bits_with}
use Rattle.tree_routing.proofs.ways.with_way.Goals as goal

pub returns : goal.returns
returns c = λ i. bits_with c.args.ways c.args.iface i c.requires
