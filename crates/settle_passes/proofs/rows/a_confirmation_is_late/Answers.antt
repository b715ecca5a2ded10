use Rattle.settle_passes.proofs.Worked.{a_confirmation_is_late}
use Rattle.settle_passes.proofs.rows.a_confirmation_is_late.Goals as goal

pub returns : goal.returns
returns c = a_confirmation_is_late
