use Rattle.grown_network.proofs.Fitting.{grown_demands_fit}
use Rattle.grown_network.proofs.demand_laws.grown_demands_fit.Goals as goal

pub returns : goal.returns
returns c = grown_demands_fit
