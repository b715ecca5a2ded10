use Rattle.tree_model.specs.Networks.{iface_of}
use Rattle.tree_model.specs.Trees.{outward}
use Rattle.network_demand.proofs.Bits.{no_bits}
use Rattle.network_demand.proofs.idle.is_idle.Goals as goal

pub returns : goal.returns
returns c =
    let x = c.args.sender.now in
    no_bits c.outward.result (outward c.args.routing.now x.node x.session.group x.sender.addr) (iface_of c.args.routing.now.ends) c.outward.type_inv c.outward.ensures
