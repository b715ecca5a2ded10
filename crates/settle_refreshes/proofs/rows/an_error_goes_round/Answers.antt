use Rattle.settle_refreshes.proofs.Worked.{an_error_goes_round}
use Rattle.settle_refreshes.proofs.rows.an_error_goes_round.Goals as goal

pub returns : goal.returns
returns c = an_error_goes_round
