use Rattle.settle_network.proofs.RunExample.{a_run_meets_the_premises}
use Rattle.settle_network.proofs.laws.a_run_meets_the_premises.Goals as goal

pub returns : goal.returns
returns c = a_run_meets_the_premises
