use Rattle.script_theorem.proofs.Purged.{a_purged_report_is_at_most_the_demand}
use Rattle.script_theorem.proofs.reports.a_purged_report_is_at_most_the_demand.Goals as goal

pub returns : goal.returns
returns c = a_purged_report_is_at_most_the_demand
