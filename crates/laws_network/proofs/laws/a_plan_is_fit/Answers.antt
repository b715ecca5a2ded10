use Rattle.laws_network.proofs.Beginning.{a_plan_is_fit}
use Rattle.laws_network.proofs.laws.a_plan_is_fit.Goals as goal

pub returns : goal.returns
returns c = a_plan_is_fit
