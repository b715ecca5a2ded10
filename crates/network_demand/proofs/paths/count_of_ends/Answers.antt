use Rattle.std.proofs.Common.{length, ap, arith}
use Rattle.network_demand.proofs.Bounds.{few_ends}
use Rattle.network_demand.proofs.paths.count_of_ends.Goals as goal

pub overflow_cast-result : goal.overflow_cast-result
overflow_cast-result c = let few = few_ends c.args.routing.now c.ends.ensures.valid in let long = ap length c.ends.ensures.ends in omega (arith, few, long)

pub returns-clause-few : goal.returns-clause-few
returns-clause-few c = let few = few_ends c.args.routing.now c.ends.ensures.valid in let long = ap length c.ends.ensures.ends in omega (arith, few, long)
