use Rattle.script_theorem.proofs.FlagReports.{settled_flags_are_a_function}
use Rattle.script_theorem.proofs.reports.settled_flags_are_a_function.Goals as goal

pub returns : goal.returns
returns c = settled_flags_are_a_function
