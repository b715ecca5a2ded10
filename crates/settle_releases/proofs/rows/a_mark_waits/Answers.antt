use Rattle.settle_releases.proofs.Worked.{a_mark_waits}
use Rattle.settle_releases.proofs.rows.a_mark_waits.Goals as goal

pub returns : goal.returns
returns c = a_mark_waits
