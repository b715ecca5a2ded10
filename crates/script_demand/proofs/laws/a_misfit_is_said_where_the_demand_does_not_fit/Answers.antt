use Rattle.script_demand.proofs.Sayings.{a_misfit_is_said}
use Rattle.script_demand.proofs.laws.a_misfit_is_said_where_the_demand_does_not_fit.Goals as goal

pub returns : goal.returns
returns c = a_misfit_is_said
