use Rattle.std.proofs.Common.{arith}
use Rattle.tree_routing.proofs.WayLaws.{at_inside, ways_more}
use Rattle.tree_routing.proofs.ways.ways_out.Goals as goal

pub with_hop-ways-requires-clause-inside : goal.with_hop-ways-requires-clause-inside
with_hop-ways-requires-clause-inside c = at_inside c.args.ends.now c.args.hops.now c.loop-hop.hop-index _ c.requires.inside (omega arith)

pub loop-hop-preserved : goal.loop-hop-preserved
loop-hop-preserved c = ways_more c.args.ends.now c.args.node c.args.hops.now c.loop-hop.hop-index _ c.loop-hop.ways c.with_hop-ways.result (omega arith) c.loop-hop.invariant c.with_hop-ways.ensures
