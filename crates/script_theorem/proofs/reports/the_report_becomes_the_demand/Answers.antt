use Rattle.script_theorem.proofs.Example.{the_report_becomes_the_demand}
use Rattle.script_theorem.proofs.reports.the_report_becomes_the_demand.Goals as goal

pub returns : goal.returns
returns c = the_report_becomes_the_demand
