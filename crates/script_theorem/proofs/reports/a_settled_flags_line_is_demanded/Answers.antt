use Rattle.script_theorem.proofs.FlagReports.{a_settled_flags_line_is_demanded}
use Rattle.script_theorem.proofs.reports.a_settled_flags_line_is_demanded.Goals as goal

pub returns : goal.returns
returns c = a_settled_flags_line_is_demanded
