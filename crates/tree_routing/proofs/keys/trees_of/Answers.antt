use Rattle.std.proofs.Common.{◌∙◌, refl, take, arith}
use Rattle.tree_routing.proofs.KeyLaws.{rows_up, one_tree_more, trees_are, all_taken}
use Rattle.tree_routing.proofs.keys.trees_of.Goals as goal

pub add-requires : goal.add-requires
add-requires c = rows_up c.loop-hop.trees.items (take c.loop-hop.hop-index c.args.hops.now) c.loop-hop.invariant

pub loop-hop-preserved : goal.loop-hop-preserved
loop-hop-preserved c = one_tree_more c.loop-hop.trees.items c.add.new.trees.items c.args.hops.now c.loop-hop.hop-index _ _ (omega arith) refl c.loop-hop.invariant c.in_ok-add.ensures

pub returns : goal.returns
returns c = trees_are c.loop-hop.trees.items c.args.hops.now (c.loop-hop.invariant ∙ all_taken c.args.hops.now c.loop-hop.hop-index (omega arith))
