use Rattle.settle_passes.proofs.Worked.{a_stray_tear_is_taken}
use Rattle.settle_passes.proofs.rows.a_stray_tear_is_taken.Goals as goal

pub returns : goal.returns
returns c = a_stray_tear_is_taken
