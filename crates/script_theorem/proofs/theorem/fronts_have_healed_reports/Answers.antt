use Rattle.script_theorem.proofs.Fronts.{fronts_have_healed_reports}
use Rattle.script_theorem.proofs.theorem.fronts_have_healed_reports.Goals as goal

pub returns : goal.returns
returns c = fronts_have_healed_reports
