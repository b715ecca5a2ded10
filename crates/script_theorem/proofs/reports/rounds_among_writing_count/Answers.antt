use Rattle.script_theorem.proofs.RoundsAmong.{rounds_among_writing_count}
use Rattle.script_theorem.proofs.reports.rounds_among_writing_count.Goals as goal

pub returns : goal.returns
returns c = rounds_among_writing_count
