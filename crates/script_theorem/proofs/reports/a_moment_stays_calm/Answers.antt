use Rattle.script_theorem.proofs.Writing.{a_moment_stays_calm}
use Rattle.script_theorem.proofs.reports.a_moment_stays_calm.Goals as goal

pub returns : goal.returns
returns c = a_moment_stays_calm
