use Rattle.script_theorem.proofs.Demands.{a_settled_report_is_the_demand}
use Rattle.script_theorem.proofs.reports.a_settled_report_is_the_demand.Goals as goal

pub returns : goal.returns
returns c = a_settled_report_is_the_demand
