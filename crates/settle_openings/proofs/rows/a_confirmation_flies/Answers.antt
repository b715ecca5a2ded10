use Rattle.settle_openings.proofs.Worked.{a_confirmation_flies}
use Rattle.settle_openings.proofs.rows.a_confirmation_flies.Goals as goal

pub returns : goal.returns
returns c = a_confirmation_flies
