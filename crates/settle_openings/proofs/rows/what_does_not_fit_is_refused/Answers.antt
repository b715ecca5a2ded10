use Rattle.settle_openings.proofs.Worked.{what_does_not_fit_is_refused}
use Rattle.settle_openings.proofs.rows.what_does_not_fit_is_refused.Goals as goal

pub returns : goal.returns
returns c = what_does_not_fit_is_refused
