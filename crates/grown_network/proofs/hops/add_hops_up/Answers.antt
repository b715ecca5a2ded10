use Rattle.grown_network.proofs.HopLists.{in_at}
use Rattle.grown_network.proofs.hops.add_hops_up.Goals as goal

pub hop_up-requires : goal.hop_up-requires
hop_up-requires c = c.requires _ (in_at c.args.way.now c.loop-node.node-index 0 c.loop-node-test.true)
