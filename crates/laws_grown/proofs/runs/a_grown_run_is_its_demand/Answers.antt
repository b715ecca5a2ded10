use Rattle.laws_grown.proofs.Ending.{a_grown_run_is_its_demand}
use Rattle.laws_grown.proofs.runs.a_grown_run_is_its_demand.Goals as goal

pub returns : goal.returns
returns c = a_grown_run_is_its_demand
