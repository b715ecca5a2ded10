use Rattle.settle_refreshes.proofs.Worked.{a_confirmation_goes_round}
use Rattle.settle_refreshes.proofs.rows.a_confirmation_goes_round.Goals as goal

pub returns : goal.returns
returns c = a_confirmation_goes_round
