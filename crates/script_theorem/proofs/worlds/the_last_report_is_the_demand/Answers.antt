use Rattle.script_theorem.proofs.WorldDemands.{the_last_report_is_the_demand}
use Rattle.script_theorem.proofs.worlds.the_last_report_is_the_demand.Goals as goal

pub returns : goal.returns
returns c = the_last_report_is_the_demand
