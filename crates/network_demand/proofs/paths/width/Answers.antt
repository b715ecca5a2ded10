use Rattle.std.proofs.Common.{arith}
use Rattle.network_demand.proofs.Bounds.{few_peers}
use Rattle.network_demand.proofs.paths.width.Goals as goal

pub returns-clause-width : goal.returns-clause-width
returns-clause-width c =
    let few = few_peers c.args.routing.now c.nodes-nodes.ensures.valid c.args.end in
    omega (arith, few, c.loop-k.invariant, c.loop-k-test.false, c.loop-k.auto.k-end)
