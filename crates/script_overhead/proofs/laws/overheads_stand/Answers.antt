use Rattle.script_overhead.proofs.Overheads.{overheads_stand}
use Rattle.script_overhead.proofs.laws.overheads_stand.Goals as goal

pub returns : goal.returns
returns c = overheads_stand
