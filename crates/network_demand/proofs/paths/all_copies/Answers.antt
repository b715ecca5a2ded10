use Rattle.std.proofs.Common.{arith}
use Rattle.network_demand.specs.Counts.{copies}
use Rattle.network_demand.proofs.CountSums.{sum_more}
use Rattle.network_demand.proofs.paths.all_copies.Goals as goal

pub loop-end-preserved : goal.loop-end-preserved
loop-end-preserved c =
    let more = sum_more (copies c.args.routing.now c.args.hops.now) c.loop-end.end in
    record {
      sum = omega (arith, more, c.loop-end.invariant.sum, c.copies-sum.ensures.copies);
      few = omega (arith, c.loop-end.invariant.few, c.copies-sum.ensures.few);
    }
