use Rattle.std.proofs.Common.{arith, ◌-◌}
use Rattle.grown_network.proofs.NameLists.{names_more, names_none}
use Rattle.grown_network.proofs.names.names.Goals as goal

pub loop-node-init : goal.loop-node-init
loop-node-init c = names_none c.new-names.result.items c.new-names.ensures.items

pub loop-node-preserved : goal.loop-node-preserved
loop-node-preserved c = names_more c.loop-node.names.items c.add_names.new.names.items (c.loop-node.node - 1) c.loop-node.node _ (omega arith)
    (omega arith) c.loop-node.invariant c.in_ok-add_names.ensures
